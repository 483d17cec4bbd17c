use Rattle.std.proofs.Common.{◌≡◌, ◌+◌, ◌-◌, ◌*◌, ◌%◌, ◌^◌, ◌<◌, ℕ, List, take, drop, get_or, ap, sym, subst, ◌∙◌, arith, ⊎_elim, length-drop}
use Rattle.std.proofs.lemmas.Bool.{cases_lt}
use Rattle.std.proofs.lemmas.List.{drop-drop, get_or-drop}
use Rattle.tm_base.specs.Bits.{bits_of, low_bits}
use Rattle.tm_base.proofs.Packing.{length-bits_of, length-low_bits, bits_of-take, bits_of-drop}
use Rattle.tm_sync.specs.Places.{match_of}
use Rattle.tm_sync.proofs.NoneMatch.{match-first}
use Rattle.tm_sync.proofs.PackedBits.{five-octets, next-word, part-take}
use Rattle.tm_sync.proofs.recent_bits.far_octets.Goals as goal

pub overflow_mul-bits : goal.overflow_mul-bits
overflow_mul-bits c = record { fits = omega (arith, c.loop-k.invariant.fits) }

pub overflow_add-bits : goal.overflow_add-bits
overflow_add-bits c =
    let small = (c.type_inv.octets (c.loop-k.k + 4)).fits in
    record { fits = omega (arith, c.loop-k.invariant.fits, small) }

pub loop-k-preserved : goal.loop-k-preserved
loop-k-preserved c =
    let k = c.loop-k.k in
    let octets : List ℕ = drop k c.args.octets.now in
    let left = length-drop k c.args.octets.now in
    let number : ℕ = c.from.result * 256 + c.from-in-loop-k.result in
    let octet = get_or-drop k c.args.octets.now 4 0 in
    let small : get_or octets 4 0 < 256 = subst (λ n. n < 256) (sym octet)
    (c.type_inv.octets (k + 4)).fits in
    let five : low_bits 40 number ≡ bits_of (take 5 octets) =
    (λ i. low_bits 40 (c.from.ensures i * 256 + (c.from-in-loop-k.ensures ∙ sym octet) i))
    ∙ five-octets octets c.loop-k.word (omega arith) small c.loop-k.invariant.word in
    let whole : c.window-word.result ≡ number % 2 ^ 32 = omega (arith, c.window-word.ensures) in
    let size = length-low_bits 40 number in
    let all = length-bits_of octets in
    record {
      fits = c.window-word.type_inv;
      word = ap (low_bits 32) whole ∙ next-word octets number five
          ∙ ap (λ l. bits_of (take 4 l)) (drop-drop 1 k c.args.octets.now);
      none = λ rules tell q below. ⊎_elim (c.loop-k.invariant.none rules tell q) (λ later.
          let at : ℕ = q - 8 * k in
          let is : 8 * k + at ≡ q = omega arith in
          let there = length-drop at (bits_of octets) in
          let here = length-drop at (low_bits 40 number) in
          ap (λ n. match_of rules (drop n (bits_of c.args.octets.now))) (sym is)
          ∙ ap (match_of rules) (sym (drop-drop at (8 * k) (bits_of c.args.octets.now))
          ∙ ap (drop at) (sym (bits_of-drop k c.args.octets.now)))
          ∙ match-first rules (drop at (bits_of octets)) (drop at (low_bits 40 number))
          (omega arith) (omega arith)
          (sym (part-take (bits_of octets) at 32 40 (omega arith))
          ∙ ap (λ l. take 32 (drop at l)) (sym (bits_of-take 5 octets) ∙ sym five))
          ∙ c.are_far.ensures c.if-not-are_far.false rules tell at (omega arith))
          (cases_lt q (8 * k));
    }
