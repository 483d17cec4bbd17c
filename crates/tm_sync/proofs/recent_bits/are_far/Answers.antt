use Rattle.std.proofs.Common.{◌≡◌, ◌-◌, ◌/◌, ◌%◌, ◌^◌, ◌<◌, ◌≤◌, ℕ, Bool, List, None, take, drop, ap, sym, ◌∙◌, arith, below_more, length-drop}
use Rattle.std.proofs.lemmas.List.{length-take-le}
use Rattle.tm_base.specs.Bits.{low_bits, number_of}
use Rattle.tm_base.proofs.Packing.{length-low_bits, number_of-low_bits}
use Rattle.tm_sync.specs.Places.{match_of}
use Rattle.tm_sync.proofs.Looks.{match-received}
use Rattle.tm_sync.proofs.PackedBits.{window-bits}
use Rattle.tm_sync.proofs.recent_bits.are_far.Goals as goal

pub loop-left-preserved : goal.loop-left-preserved
loop-left-preserved c =
    let left = c.loop-left.left in
    let bits = c.args.bits in
    let some : 0 < left = c.loop-left-test.true in
    let most : left ≤ 8 = c.loop-left.invariant.few in
    let at : ℕ = 8 - left in
    let all : List Bool = low_bits 40 bits in
    let size = length-low_bits 40 bits in
    let there = length-drop at all in
    let from : 8 - at ≡ left = omega arith in
    let word : c.window.result ≡ number_of (take 32 (drop at all)) =
    c.window.ensures ∙ ap (λ n. bits / 2 ^ n % 2 ^ 32) (sym from)
    ∙ sym (number_of-low_bits 32 (bits / 2 ^ (8 - at)))
    ∙ ap number_of (sym (window-bits at bits (omega arith))) in
    record {
      few = omega arith;
      none = λ rules tell q below.
          below_more (λ (q : ℕ). match_of rules (drop q all) ≡ None) at
          (c.loop-left.invariant.none rules tell)
          (sym (match-received rules (drop at all) (omega arith))
          ∙ (c.is_far.ensures.far c.if-not-is_far.false).1 rules (take 32 (drop at all)) tell
          (length-take-le 32 (drop at all) (omega arith)) word) q (omega arith);
    }
