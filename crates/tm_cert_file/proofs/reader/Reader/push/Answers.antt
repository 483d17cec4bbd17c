use Rattle.std.proofs.Common.{◌≡◌, ℕ, ◌+◌, ◌-◌, ◌<◌, ◌≤◌, ◌++◌, length, take, drop, min, refl, sym, ap, subst, ◌∙◌, arith, inl, inr}
use Rattle.std.proofs.Math.Path.{transport}
use Rattle.std.proofs.lemmas.Bool.{cases_lt}
use Rattle.std.proofs.lemmas.List.{length-append, length-take, length-drop, take_rest}
use Rattle.tm_cert_file.specs.declared.seen.Seen.TheVariants.{More}
use Rattle.tm_cert_file.specs.Seen.{IsSeen}
use Rattle.tm_cert_file.specs.Reading.{HasPassed}
use Rattle.tm_cert_file.proofs.Pushing.{taken_more, only_just, stands_more}
use Rattle.tm_cert_file.proofs.reader.Reader.push.Goals as goal
use Rattle.tm_cert_file.proofs.reader.Reader.push.Goals.{After-fill-taken}

-- ---- what is known once octets were taken

module _ (c : After-fill-taken) where
  count : c.fill-taken.result ≡ min (min (length c.args.piece.now - c.loop-taken.taken)
      (c.goal-goal.result - length c.loop-taken.self.octets))
      (c.self.inside.octets.room - length c.loop-taken.self.octets)
  count =
      omega (
        arith,
        c.fill-taken.ensures.count,
        ap length (take_rest c.args.piece.now c.loop-taken.taken),
        length-drop c.loop-taken.taken c.args.piece.now,
        ap length c.as_slice.ensures.octets,
        ap (λ v. length v.octets) c.self.view_is,
      )

  some : 0 < c.fill-taken.result
  some =
      omega (
        arith,
        count,
        c.goal-goal.ensures.room,
        ap (λ v. v.rules.keep) c.self.view_is,
        ap (λ v. v.rules.ahead) c.self.view_is,
        c.self.invariant,
        c.goal-goal.ensures.more,
        c.loop-taken-test.true,
      )

  octets_are : c.fill-taken.new.self.octets ≡ c.args.self.now.octets
      ++ take (c.loop-taken.taken + c.fill-taken.result) c.args.piece.now
  octets_are =
      c.fill-taken.ensures.octets
      ∙ ap (λ v. c.self.inside.octets.octets ++ take c.fill-taken.result v)
      (take_rest c.args.piece.now c.loop-taken.taken)
      ∙ taken_more c.loop-taken.taken c.fill-taken.result _ c.args.self.now.octets c.self.inside.octets.octets
      c.args.piece.now (ap (λ v. v.octets) c.self.view_is ∙ c.loop-taken.invariant.octets) refl

  -- nothing is seen by fewer octets than the goal
  before_goal : (number : ℕ) → c.loop-taken.taken ≤ number
      → length c.loop-taken.self.octets + (number - c.loop-taken.taken) < c.goal-goal.result
      → IsSeen c.args.self.now.rules c.args.self.now.before
      (c.args.self.now.octets ++ take number c.args.piece.now) More
  before_goal number le less =
      let v = c.loop-taken.self in
      let part = take (number - c.loop-taken.taken) (drop c.loop-taken.taken c.args.piece.now) in
      let is = taken_more c.loop-taken.taken (number - c.loop-taken.taken) number c.args.self.now.octets v.octets
      c.args.piece.now c.loop-taken.invariant.octets (omega arith) in
      transport (λ i. IsSeen (c.loop-taken.invariant.rules i) (c.loop-taken.invariant.before i) (is i) More)
      (c.goal-goal.ensures.open part (omega (
        arith,
        length-take (number - c.loop-taken.taken)
            (drop c.loop-taken.taken c.args.piece.now),
      )))

  -- nothing was seen by fewer octets
  first : (number : ℕ) → number < c.loop-taken.taken + c.fill-taken.result
      → IsSeen c.args.self.now.rules c.args.self.now.before
      (c.args.self.now.octets ++ take number c.args.piece.now) More
  first number less = elim (cases_lt number c.loop-taken.taken) [
    | inl lt ↦ c.loop-taken.invariant.first number lt
    | inr le ↦ before_goal number le (omega (arith, count, c.goal-goal.ensures.more))
  ]

-- ---- the answers

pub look-requires : goal.look-requires
look-requires c less =
    let k = (goal.at.look-requires c).After-fill-taken in
    let rules = ap (λ v. v.rules) c.self.view_is ∙ c.loop-taken.invariant.rules in
    let before = ap (λ v. v.before) c.self.view_is ∙ c.loop-taken.invariant.before in
    let octets = octets_are k in
    transport (λ i. IsSeen (sym rules i) (sym before i) (sym octets i) More)
    (before_goal k (c.loop-taken.taken + c.fill-taken.result) (omega arith) (omega (arith, less, count k, ap length octets, ap length c.loop-taken.invariant.octets, length-append {A = ℕ}, length-take {A = ℕ})))

pub loop-taken-preserved : goal.loop-taken-preserved
loop-taken-preserved c =
    let k = (goal.at.loop-taken-preserved c).After-fill-taken in
    record {
      within = omega (arith, count k);
      rules = ap (λ v. v.rules) c.self.view_is ∙ c.loop-taken.invariant.rules;
      before = ap (λ v. v.before) c.self.view_is ∙ c.loop-taken.invariant.before;
      octets = octets_are k;
      seen = c.in-More.ensures;
      first = first k;
    }

pub returns-in_default : goal.returns-in_default
returns-in_default c =
    let k = (goal.at.returns-in_default c).After-fill-taken in
    let s = c.args.self.now in
    let all = c.loop-taken.taken + c.fill-taken.result in
    let rules = ap (λ v. v.rules) c.self.view_is ∙ c.loop-taken.invariant.rules in
    let before = ap (λ v. v.before) c.self.view_is ∙ c.loop-taken.invariant.before in
    let octets = octets_are k in
    let seen = transport (λ i. IsSeen (rules i) (before i) c.fill-taken.new.self.octets c.look.result) c.look.ensures in
    let last = s.octets ++ take (all - 1) c.args.piece.now in
    let is : last ++ take 1 (drop (all - 1) c.args.piece.now) ≡ c.fill-taken.new.self.octets =
    taken_more (all - 1) 1 all s.octets last c.args.piece.now refl (omega (arith, some k)) ∙ sym octets in
    record {
      taken = omega (arith, count k);
      some = λ h. omega (arith, some k);
      octets = octets;
      rules = rules;
      before = before;
      seen = seen;
      first = first k;
      all = λ e. absurd (c.in_default.not-More e);
      just = λ e.
          let passed = subst (IsSeen s.rules s.before c.fill-taken.new.self.octets) e seen in
          let just = only_just s.rules s.before last (take 1 (drop (all - 1) c.args.piece.now))
          (omega (arith, length-take 1 (drop (all - 1) c.args.piece.now))) (first k (all - 1) (omega (arith, some k)))
          (rw is passed.whole) in
          transport (λ i. HasPassed (record { rules = sym rules i; before = sym before i; octets = is i }))
          (record { passed = rw is passed; just = just });
      stands = stands_more s.rules _ s.before _ s.octets c.fill-taken.new.self.octets (take all c.args.piece.now) rules
          before octets;
    }

pub returns-clause-stands : goal.returns-clause-stands
returns-clause-stands c =
    stands_more c.args.self.now.rules c.loop-taken.self.rules c.args.self.now.before c.loop-taken.self.before
    c.args.self.now.octets c.loop-taken.self.octets
    (take c.loop-taken.taken c.args.piece.now) c.loop-taken.invariant.rules c.loop-taken.invariant.before
    c.loop-taken.invariant.octets
