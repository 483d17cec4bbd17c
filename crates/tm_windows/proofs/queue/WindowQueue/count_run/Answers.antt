use Rattle.std.proofs.Common.{◌≡◌, ◌+◌, ◌*◌, ◌∙◌, ◌<◌, ◌≤◌, inl, inr, refl, ℕ, Bor, List, Some, ap, sym, subst, arith, length, vec_len}
use Rattle.std.proofs.lemmas.Bool.{cases_lt}
use Rattle.tm_conv.specs.Path.{steps_size}
use Rattle.tm_conv.proofs.Sizes.{steps_size-least}
use Rattle.tm_windows.specs.Looks.{HoldLooks}
use Rattle.tm_windows.specs.Queue.{Queueing, HoldsRun, reached}
use Rattle.tm_windows.specs.contracts.queue.WindowQueue.{the_view}
use Rattle.tm_windows.specs.declared.looks.Looks.{Looks}
use Rattle.tm_windows.specs.declared.queue.WindowQueue.TheInside.{Inside}
use Rattle.tm_windows.proofs.FirstDrops.{AreLooksOf, found-longest, found-run, held_of}
use Rattle.tm_windows.proofs.FollowedRuns.{unfollowed-all}
use Rattle.tm_windows.proofs.HeldOctets.{fewer_held}
use Rattle.tm_windows.proofs.queue.WindowQueue.count_run.Goals as goal

-- the looks over held octets
abbrev looks_of : Inside → Bor (List ℕ) → ℕ → Looks
looks_of v octets steps = record { shape = v.settings.shape; steps = steps; t = v.t; octets = octets }

are_looks : (v : Inside) (octets : Bor (List ℕ)) (steps : ℕ) → v.seen ≡ Some steps → octets.now ≡ held_of v
    → AreLooksOf v (looks_of v octets steps)
are_looks v octets steps seen is = record { shape = refl; steps = seen; t = refl; octets = is }

-- held octets that close `most` windows close n, where these are no more
runs : (v : Inside) (q : Queueing) (n most : ℕ) (held : List ℕ) → the_view v ≡ q → held ≡ held_of v → n ≤ most
    → steps_size v.settings.shape.rate v.t (most * v.settings.shape.keep + v.settings.shape.ahead + 1) ≤ length held
    → HoldsRun q n
runs v q n most held view_is is le room =
    let all : HoldsRun (the_view v) most = omega (arith, room, ap length is) in
    fewer_held q n most le (subst (λ (u : Queueing). HoldsRun u most) view_is all)

-- and where they close no more than `most`, which are fewer than there is room for, they don't close one more
not_held : (v : Inside) (q : Queueing) (n most : ℕ) (held : List ℕ) → the_view v ≡ q → held ≡ held_of v → n ≡ most
    → (most < vec_len v.candidates → length held < steps_size v.settings.shape.rate v.t
    ((most + 1) * v.settings.shape.keep + v.settings.shape.ahead + 1))
    → n < q.most → HoldsRun q (n + 1) → ⊥
not_held v q n most held view_is is same all less holds =
    let more : HoldsRun (the_view v) (most + 1) = subst (λ (k : ℕ). HoldsRun (the_view v) (k + 1)) same
    (subst (λ (u : Queueing). HoldsRun u (n + 1)) (sym view_is) holds) in
    omega (
      arith,
      more,
      ap length is,
      all (omega (arith, same, less, ap (λ (u : Queueing). u.most) view_is)),
    )

pub returns-then-most-lt2-clause-undropped : goal.returns-then-most-lt2-clause-undropped
returns-then-most-lt2-clause-undropped g c = λ k some less. absurd (omega (arith, some, less, c.if-most-lt2.true))

pub returns-in_default-clause-undropped : goal.returns-in_default-clause-undropped
returns-in_default-clause-undropped g c =
    let q = c.args.self.now in
    unfollowed-all q.windows (sym (ap (λ (u : Queueing). u.windows.seen) c.self.view_is) ∙ c.in_default.is) q.t
    c.closed_windows-most.result q.held

pub next_drop-requires-clause-few : goal.next_drop-requires-clause-few
next_drop-requires-clause-few g c =
    let v = c.self.inside in
    let s = v.settings.shape in
    let most = c.closed_windows-most in
    omega (
      arith,
      c.requires.few,
      ap (λ (u : Queueing). reached u) c.self.view_is,
      most.ensures.room (omega (arith, c.if-most-lt2.false)),
      ap length c.octets_from-octets.ensures.octets,
      steps_size-least s.rate v.t (most.result * s.keep + s.ahead + 1),
    )

pub returns-clause-room : goal.returns-clause-room
returns-clause-room g c = λ some.
    let most = c.closed_windows-most in
    runs c.self.inside c.args.self.now c.next_drop.result most.result c.octets_from-octets.result.now c.self.view_is
    c.octets_from-octets.ensures.octets c.next_drop.ensures.within.1
    (most.ensures.room (omega (arith, c.if-most-lt2.false)))

pub returns-clause-undropped : goal.returns-clause-undropped
returns-clause-undropped g c =
    let v = c.self.inside in
    let most = c.closed_windows-most in
    let l = looks_of v c.octets_from-octets.result c.in-Some.steps in
    let are = are_looks v c.octets_from-octets.result c.in-Some.steps c.in-Some.is c.octets_from-octets.ensures.octets in
    let seen = c.self.invariant.6 c.in-Some.steps c.in-Some.is in
    let holds : HoldLooks l most.result = record {
      room = most.ensures.room (omega (arith, c.if-most-lt2.false));
      steps = (seen.1, seen.2);
    } in
    found-run v c.args.self.now l most.result c.next_drop.result c.self.view_is are holds c.next_drop.ensures

pub returns-clause-longest : goal.returns-clause-longest
returns-clause-longest g c = λ less holds undropped.
    let v = c.self.inside in
    let q = c.args.self.now in
    let most = c.closed_windows-most in
    let n = c.next_drop.result in
    let l = looks_of v c.octets_from-octets.result c.in-Some.steps in
    let are = are_looks v c.octets_from-octets.result c.in-Some.steps c.in-Some.is c.octets_from-octets.ensures.octets in
    elim (cases_lt n most.result) as (λ _. ⊥) [
      | inl lt ↦ found-longest v q l most.result n c.self.view_is are c.next_drop.ensures lt undropped
      | inr le ↦ (let same : n ≡ most.result = omega (arith, le, c.next_drop.ensures.within.1) in
          not_held v q n most.result c.octets_from-octets.result.now c.self.view_is c.octets_from-octets.ensures.octets same
          (λ lt. most.ensures.all (omega (arith, lt, c.len.ensures))) less holds)
    ]
