use Rattle.std.proofs.Common.{◌≡◌, ◌==◌, ◌++◌, ◌∷◌, ◌+◌, ◌-◌, ◌*◌, ◌%◌, ◌^◌, ◌<◌, ◌∙◌, ℕ, suc, Bool, true, false, [], take, map, sym, ap, arith, refl, get_or, lit<, bit_or}
use mir.Val.{bool_byte}
use Rattle.std.specs.Int.Bits.{or_zero_l, or_zero_r}
use Rattle.std.proofs.Math.Pow.{mod-mod-pow}
use Rattle.std.proofs.lemmas.List.{take_more, take_all, map-append}
use Rattle.std.proofs.lemmas.Nat.{or_block}
use Rattle.tm_base.specs.Bits.{bit_number, low_bits}
use Rattle.tm_base.proofs.LowBits.{low_bits-same}
use Rattle.tm_base.proofs.Packing.{bool_byte-bit_number, low_bits-push, low_bits-zero}
use Rattle.tm_codeblock.proofs.packing.octet_of.Goals as goal

-- one bit more
pushed : (p : ℕ) (b : Bool) → bit_or (p * 2 % 256) (bit_number b) ≡ (p * 2 + bit_number b) % 256
pushed p b =
    let a : ℕ = p % 128 in
    let d : ℕ = bit_number b in
    let even : p * 2 % 256 ≡ a * 2 ^ 1 + 0 = omega arith in
    let low : d ≡ 0 * 2 ^ 1 + d = omega arith in
    let parts = (λ i. bit_or (even i) (low i)) ∙ or_block 1 a 0 0 d (lit< tt) (small b)
    ∙ (λ i. or_zero_r a i * 2 ^ 1 + or_zero_l d i) in
    let few : d < 2 = small b in
    parts ∙ omega arith
  where
    small : (b : Bool) → bit_number b < 2 ^ 1
    small true = lit< tt
    small false = lit< tt

bit-more : (extra p v byte : ℕ) (b : Bool) → extra < 8 → byte ≡ bool_byte b → v ≡ bit_or (p * 2 % 256) byte
    → low_bits (extra + 1) v ≡ low_bits extra p ++ b ∷ []
bit-more extra p v byte b few is value =
    let x : ℕ = p * 2 + bit_number b in
    let octet : v ≡ x % 256 = value ∙ ap (bit_or (p * 2 % 256)) (is ∙ bool_byte-bit_number b) ∙ pushed p b in
    let eight : 8 ≡ (7 - extra) + (extra + 1) = omega arith in
    let next : extra + 1 ≡ suc extra = omega arith in
    low_bits-same (extra + 1) v x (ap (λ n. n % 2 ^ (extra + 1)) octet ∙ ap (λ n. x % 2 ^ n % 2 ^ (extra + 1)) eight
    ∙ mod-mod-pow x (7 - extra) (extra + 1))
    ∙ ap (λ n. low_bits n x) next ∙ low_bits-push extra p b

pub loop-k-init : goal.loop-k-init
loop-k-init c = low_bits-zero 0

pub loop-k-preserved : goal.loop-k-preserved
loop-k-preserved c =
    let bits = c.args.bits.now in
    let k = c.loop-k.k in
    let x = get_or bits k 0 in
    let more : take (k + 1) bits ≡ take k bits ++ x ∷ [] = take_more bits k 0 (omega arith) in
    bit-more k c.loop-k.octet _ c.from.result (x == 1) c.loop-k-test.true c.from.ensures refl
    ∙ ap (λ l. l ++ (x == 1) ∷ []) c.loop-k.invariant
    ∙ sym (ap (map (λ bit. bit == 1)) more ∙ map-append (λ bit. bit == 1) (take k bits) (x ∷ []))

pub returns : goal.returns
returns c =
    let eight : 8 ≡ c.loop-k.k = omega arith in
    ap (λ n. low_bits n c.loop-k.octet) eight ∙ c.loop-k.invariant
    ∙ ap (map (λ bit. bit == 1)) (take_all c.loop-k.k c.args.bits.now (omega arith))
