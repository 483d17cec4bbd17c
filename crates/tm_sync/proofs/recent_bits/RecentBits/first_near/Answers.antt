use Rattle.std.proofs.Common.{◌≡◌, ◌+◌, ◌-◌, ◌<◌, ℕ, Bool, List, is_some, take, drop, length, ap, sym, ◌∙◌, arith, length-drop}
use Rattle.std.proofs.lemmas.List.{drop-drop}
use Rattle.tm_base.specs.Bits.{bits_of}
use Rattle.tm_sync.specs.Finding.{Recent}
use Rattle.tm_sync.specs.Places.{Rules, match_of}
use Rattle.tm_sync.specs.Searching.{TellFar, far_count}
use Rattle.tm_sync.proofs.NoneMatch.{match-first}
use Rattle.tm_sync.proofs.PackedBits.{length-from, length-part, part-of}
use Rattle.tm_sync.proofs.recent_bits.RecentBits.first_near.Goals.{After-far_until, then-either, else-either}
use Rattle.tm_sync.proofs.recent_bits.RecentBits.first_near.Goals as goal

-- the numbers that it hands on are those of these rules
tells : (c : After-far_until) (rules : Rules)
    → rules.tolerance ≡ c.args.tolerance → rules.either ≡ c.args.either
    → TellFar rules (c.args.tolerance + 1) c.if-either.far
tells c rules tolerance either = record {
  tolerance = omega (arith, c.requires.tolerance);
  least_is = omega arith;
  count_is = elim c.if-either.branch [
    | then-either w ↦ w.far-is
        ∙ (λ i. far_count (sym tolerance i) (sym (either ∙ w.if-either.true) i))
    | else-either w ↦ w.far-is
        ∙ (λ i. far_count (sym tolerance i) (sym (either ∙ w.if-either.false) i))
  ];
}

-- how 32 bits match in the room and in what it holds
matches : (c : After-far_until) (rules : Rules) (q : ℕ) → q < c.args.most
    → match_of rules (drop q c.args.self.now.bits)
    ≡ match_of rules (drop q (drop c.self.inside.from (bits_of c.as_slice.result.now)))
matches c rules q within =
    let r = c.self.inside in
    let bits : List Bool = drop r.from (take r.to (bits_of r.room.items)) in
    let all : List Bool = drop r.from (bits_of r.room.items) in
    let count : length bits ≡ r.to - r.from =
    length-part r.room.items r.from r.to c.self.invariant.1 in
    let same : length c.args.self.now.bits ≡ length bits =
    ap (λ (v : Recent). length v.bits) (sym c.self.view_is) in
    let size = length-from r.room.items r.from in
    let here = length-drop q bits in
    let there = length-drop q all in
    ap (λ (v : Recent). match_of rules (drop q v.bits)) (sym c.self.view_is)
    ∙ match-first rules (drop q bits) (drop q all)
    (omega (arith, c.self.invariant.1, c.requires.room))
    (omega (arith, c.self.invariant.1, c.requires.room))
    (sym (part-of r.room.items r.from r.to q 32 (omega (arith, c.requires.room)))
    ∙ ap (take 32) (sym (drop-drop q r.from (bits_of r.room.items))))
    ∙ ap (λ l. match_of rules (drop q (drop r.from (bits_of l)))) (sym c.as_slice.ensures.value)

pub returns-clause-far : goal.returns-clause-far
returns-clause-far c = λ rules q tolerance either below.
    matches c rules q (omega (arith, c.far_until.ensures.most))
    ∙ (c.far_until.ensures.first rules (tells c rules tolerance either)).none q below

pub returns-clause-near : goal.returns-clause-near
returns-clause-near c = λ rules tolerance either below.
    ap is_some (matches c rules c.far_until.result below)
    ∙ (c.far_until.ensures.first rules (tells c rules tolerance either)).some below
