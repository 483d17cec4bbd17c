use Rattle.std.proofs.Common.{◌≡◌, ℕ, ◌<◌, ◌≤◌, ◌+◌, ◌-◌, ◌*◌, ◌∙◌, ◌⊎◌, Bool, true, false, ◌&&◌, List, length, take, drop, length-drop, sym, ap, subst, arith, mul-le-mul_right}
use Rattle.std.proofs.lemmas.List.{length-take-le}
use Rattle.tm_base.specs.Bits.{number_of}
use Rattle.tm_sync.specs.Places.{match_of, matches_in, are_verified, verify_bits}
use Rattle.tm_sync.specs.Searching.{Searching, Recalls}
use Rattle.tm_sync.proofs.Steps.{are_verified-zero}
use Rattle.tm_sync.proofs.Looks.{match-received, verified-step, back-or, polarity-test}
use Rattle.tm_sync.proofs.search.Search.is_verified.Goals.{After-polarity_of}
use Rattle.tm_sync.proofs.search.Search.is_verified.Goals as goal

-- what one pass of the loop looks at: the next marker
next-marker : (c : After-polarity_of) (bits : List Bool) (from : ℕ) → Recalls c.args.self.now c.args.room.now bits from
    → from + 32 + verify_bits c.args.self.now.rules ≤ length bits
    → are_verified c.args.self.now.rules c.args.inverted c.loop-left.left
    (drop (length bits - (32 + c.loop-left.left * (32 + c.args.self.now.rules.block_bits))) bits)
    ≡ (matches_in c.polarity_of.result c.args.inverted
    && are_verified c.args.self.now.rules c.args.inverted (c.loop-left.left - 1)
    (drop (length bits - (32 + (c.loop-left.left - 1) * (32 + c.args.self.now.rules.block_bits))) bits))
next-marker c bits from r room =
    let s = c.args.self.now in
    let left = c.loop-left.left in
    let u : ℕ = 32 + s.rules.block_bits in
    let some : 0 < left = c.loop-left-test.true in
    let fewer : left ≤ s.rules.verify = c.loop-left.invariant.fewer in
    let most = mul-le-mul_right u fewer in
    let less = back-or left s.rules.block_bits (verify_bits s.rules) some most in
    let back : c.verified_by.result ≡ (left - 1) * u = c.verified_by.ensures.value
    ∙ ap (λ (v : Searching). (left - 1) * (32 + v.rules.block_bits)) c.self.view_is in
    let n : ℕ = length bits - (32 + (left - 1) * u) in
    let there = less.1 in
    let size = length-drop n bits in
    let received : c.received_at-received.result ≡ number_of (take 32 (drop n bits)) =
    c.received_at-received.ensures bits from r (subst (λ (k : ℕ). (k ≡ 0) ⊎ ((32 ≤ k) × (k ≤ verify_bits s.rules)))
    (sym back) less.0) (omega arith)
    ∙ ap (λ k. number_of (take 32 (drop (length bits - (32 + k)) bits))) back in
    let long : length (take 32 (drop n bits)) ≡ 32 = length-take-le 32 (drop n bits) (omega arith) in
    let polarity : c.polarity_of.result ≡ match_of s.rules (drop n bits) =
    c.polarity_of.ensures s.rules (take 32 (drop n bits)) (ap (λ (v : Searching). v.rules.tolerance)
    (sym c.self.view_is)) (ap (λ (v : Searching). v.rules.either) (sym c.self.view_is))
    long (c.wrong_count.ensures.upright (take 32 (drop n bits)) long received)
    ∙ match-received s.rules (drop n bits) (omega arith) in
    verified-step s.rules c.args.inverted left bits some (omega arith)
    ∙ ap (λ w. matches_in w c.args.inverted
    && are_verified s.rules c.args.inverted (left - 1) (drop n bits)) (sym polarity)

pub loop-left-preserved : goal.loop-left-preserved
loop-left-preserved c = record {
  fewer = omega (arith, c.loop-left.invariant.fewer);
  held = λ bits from r room.
      c.loop-left.invariant.held bits from r room
      ∙ next-marker (goal.at.loop-left-preserved c).After-polarity_of bits from r room
      ∙ ap (λ w. w && are_verified c.args.self.now.rules c.args.inverted (c.loop-left.left - 1)
      (drop (length bits - (32 + (c.loop-left.left - 1) * (32 + c.args.self.now.rules.block_bits))) bits))
      (ap (λ o. matches_in o c.args.inverted) c.in-Some.is ∙ polarity-test c.in-Some.polarity c.args.inverted true
      c.if-polarity-inverted.true);
}

pub returns-in_default : goal.returns-in_default
returns-in_default c = λ bits from r room.
    sym (c.loop-left.invariant.held bits from r room ∙ next-marker
    (goal.at.returns-in_default c).After-polarity_of bits from r room
    ∙ ap (λ w. w && are_verified c.args.self.now.rules c.args.inverted (c.loop-left.left - 1)
    (drop (length bits - (32 + (c.loop-left.left - 1) * (32 + c.args.self.now.rules.block_bits))) bits))
    (ap (λ o. matches_in o c.args.inverted) c.in-Some.is ∙ polarity-test c.in-Some.polarity c.args.inverted false
    c.if-polarity-inverted.false))

pub returns-in_default-2 : goal.returns-in_default-2
returns-in_default-2 c = λ bits from r room.
    sym (c.loop-left.invariant.held bits from r room ∙ next-marker
    (goal.at.returns-in_default-2 c).After-polarity_of bits from r room
    ∙ ap (λ w. w && are_verified c.args.self.now.rules c.args.inverted (c.loop-left.left - 1)
    (drop (length bits - (32 + (c.loop-left.left - 1) * (32 + c.args.self.now.rules.block_bits))) bits))
    (ap (λ o. matches_in o c.args.inverted) c.in_default.is))

pub returns : goal.returns
returns c = λ bits from r room.
    let none : c.loop-left.left ≡ 0 = omega arith in
    sym (c.loop-left.invariant.held bits from r room
    ∙ ap (λ (n : ℕ). are_verified c.args.self.now.rules c.args.inverted n
    (drop (length bits - (32 + c.loop-left.left * (32 + c.args.self.now.rules.block_bits))) bits)) none
    ∙ are_verified-zero c.args.self.now.rules c.args.inverted
    (drop (length bits - (32 + c.loop-left.left * (32 + c.args.self.now.rules.block_bits))) bits))
