-- The number that the last 32 bits are, as bits are taken.
use Rattle.std.proofs.Common.{◌≡◌, ℕ, zero, suc, ◌+◌, ◌-◌, ◌*◌, ◌/◌, ◌%◌, ◌^◌, ◌<◌, ◌≤◌, ◌==◌, Bool, true, false, List, [], ◌∷◌, ◌++◌, refl, sym, ap, ◌∙◌, arith, lit<, bit_and, bit_or, append_assoc}
use mir.Val.{bool_byte}
use Rattle.std.proofs.lemmas.Nat.{or_block, and_mask}
use Rattle.std.specs.Int.Bits.{or_zero_l, or_zero_r}
use Rattle.std.proofs.lemmas.List.{append-nil}
use Rattle.tm_base.specs.Bits.{bit_number, bits_of, bits_of_octet, low_bits, number_of}
use Rattle.tm_base.proofs.Packing.{length-low_bits, low_bits-zero, low_bits-first, number_of-octet, bits_of-append}
use Rattle.tm_sync.proofs.Numbers.{value_from, value-append, value-high, number-value}

pub byte-number : (b : Bool) → bool_byte b ≡ bit_number b
byte-number true = refl
byte-number false = refl

bit_small : (b : Bool) → bit_number b < 2
bit_small true = lit< tt
bit_small false = lit< tt

slides : (w d : ℕ) → d < 2 → bit_or (w * 2 % 2 ^ 32) d ≡ w * 2 % 2 ^ 32 + d
slides w d small =
    let a : ℕ = w % 2147483648 in
    let even : w * 2 % 2 ^ 32 ≡ a * 2 ^ 1 + 0 = omega arith in
    let low : d ≡ 0 * 2 ^ 1 + d = omega arith in
    let parts = (λ i. bit_or (even i) (low i)) ∙ or_block 1 a 0 0 d (lit< tt) small
    ∙ (λ i. or_zero_r a i * 2 ^ 1 + or_zero_l d i) in
    parts ∙ ap (λ n. n + d) (omega arith)

pub received-push : (w : ℕ) (b : Bool) (bits : List Bool) → w ≡ value_from 0 bits % 2 ^ 32
    → bit_or (w * 2 % 2 ^ 32) (bool_byte b) ≡ value_from 0 (bits ++ b ∷ []) % 2 ^ 32
received-push w b bits e =
    let v : ℕ = value_from 0 bits in
    let d : ℕ = bit_number b in
    let byte : bool_byte b ≡ d = byte-number b in
    let small : d < 2 = bit_small b in
    let w_is : w ≡ v % 2 ^ 32 = e in
    let longer : value_from 0 (bits ++ b ∷ []) ≡ v * 2 + d = value-append bits (b ∷ []) 0 in
    ap (bit_or (w * 2 % 2 ^ 32)) byte ∙ slides w d small ∙ rw longer (omega arith)

slides-octet : (w x : ℕ) → x < 256 → bit_or (w * 256 % 2 ^ 32) x ≡ w * 256 % 2 ^ 32 + x
slides-octet w x small =
    let a : ℕ = w % 16777216 in
    let even : w * 256 % 2 ^ 32 ≡ a * 2 ^ 8 + 0 = omega arith in
    let low : x ≡ 0 * 2 ^ 8 + x = omega arith in
    let parts = (λ i. bit_or (even i) (low i)) ∙ or_block 8 a 0 0 x (lit< tt) small
    ∙ (λ i. or_zero_r a i * 2 ^ 8 + or_zero_l x i) in
    parts ∙ ap (λ n. n + x) (omega arith)

pub received-octet : (w x : ℕ) (bits : List Bool) → x < 256 → w ≡ number_of bits % 2 ^ 32
    → bit_or (w * 256 % 2 ^ 32) x ≡ number_of (bits ++ bits_of_octet x) % 2 ^ 32
received-octet w x bits small e =
    let v : ℕ = number_of bits in
    let w_is : w ≡ v % 2 ^ 32 = e in
    let eight : value_from v (bits_of_octet x) ≡ v * 2 ^ 8 + x =
    value-high (bits_of_octet x) v ∙ (λ i. v * 2 ^ length-low_bits 8 x i +
    (sym (number-value (bits_of_octet x)) ∙ number_of-octet x small) i) in
    let longer : number_of (bits ++ bits_of_octet x) ≡ v * 2 ^ 8 + x =
    number-value (bits ++ bits_of_octet x) ∙ value-append bits (bits_of_octet x) 0
    ∙ ap (λ n. value_from n (bits_of_octet x)) (sym (number-value bits)) ∙ eight in
    slides-octet w x small ∙ rw longer (omega arith)

-- the received bits before the last `left` ones, when one more of these is taken
pub received-window : (w x left : ℕ) → 0 < left → left ≤ 8 → x < 256
    → (w * 256 + x) / 2 ^ (left - 1) % 2 ^ 32
    ≡ bit_or ((w * 256 + x) / 2 ^ left % 2 ^ 32 * 2 % 2 ^ 32) (bool_byte (x / 2 ^ (left - 1) % 2 == 1))
received-window w x left some most small =
    let v : ℕ = (w * 256 + x) / 2 ^ left % 2 ^ 32 in
    let b : Bool = x / 2 ^ (left - 1) % 2 == 1 in
    go left some most ∙ ap (λ n. v * 2 % 2 ^ 32 + n) (sym (parity (x / 2 ^ (left - 1) % 2) (omega arith)))
    ∙ sym (ap (bit_or (v * 2 % 2 ^ 32)) (byte-number b) ∙ slides v (bit_number b) (bit_small b))
  where
    parity : (n : ℕ) → n < 2 → bit_number (n == 1) ≡ n
    parity zero few = refl
    parity (suc zero) few = refl
    parity (suc (suc n)) few = absurd (omega arith)

    go : (left : ℕ) → 0 < left → left ≤ 8
        → (w * 256 + x) / 2 ^ (left - 1) % 2 ^ 32
        ≡ (w * 256 + x) / 2 ^ left % 2 ^ 32 * 2 % 2 ^ 32 + x / 2 ^ (left - 1) % 2
    go zero some most = absurd (omega arith)
    go (suc zero) some most = omega arith
    go (suc (suc zero)) some most = omega arith
    go (suc (suc (suc zero))) some most = omega arith
    go (suc (suc (suc (suc zero)))) some most = omega arith
    go (suc (suc (suc (suc (suc zero))))) some most = omega arith
    go (suc (suc (suc (suc (suc (suc zero)))))) some most = omega arith
    go (suc (suc (suc (suc (suc (suc (suc zero))))))) some most = omega arith
    go (suc (suc (suc (suc (suc (suc (suc (suc zero)))))))) some most = omega arith
    go (suc (suc (suc (suc (suc (suc (suc (suc (suc n))))))))) some most = absurd (omega arith)

-- the bits of one more octet
pub bits-more : (bits : List Bool) (octets : List ℕ) (x : ℕ)
    → (bits ++ bits_of octets) ++ bits_of_octet x ≡ bits ++ bits_of (octets ++ x ∷ [])
bits-more bits octets x =
    append_assoc bits (bits_of octets) (bits_of_octet x)
    ∙ ap (λ l. bits ++ (bits_of octets ++ l)) (sym (append-nil (bits_of_octet x)))
    ∙ ap (λ l. bits ++ l) (sym (bits_of-append octets (x ∷ [])))

-- ---- the bits of an octet, one by one
-- the bit that stands before the last `left` bits of an octet
abbrev pub bit_of : ℕ → ℕ → Bool
bit_of left octet = octet / 2 ^ left % 2 == 1

pub masked-bit : (left octet : ℕ) → (bit_and (octet / 2 ^ left) 1 == 1) ≡ bit_of left octet
masked-bit left octet = ap (λ n. n == 1) (and_mask (octet / 2 ^ left) 1)

pub bits-bit : (prefix : List Bool) (left octet : ℕ) → 0 < left → bits_of_octet octet ≡ prefix ++ low_bits left octet
    → bits_of_octet octet ≡ (prefix ++ bit_of (left - 1) octet ∷ []) ++ low_bits (left - 1) octet
bits-bit prefix zero octet some parts = absurd (omega arith)
bits-bit prefix (suc left) octet some parts =
    let one : suc left - 1 ≡ left = omega arith in
    parts ∙ ap (λ l. prefix ++ l) (low_bits-first left octet)
    ∙ sym (append_assoc prefix (bit_of left octet ∷ []) (low_bits left octet))
    ∙ (λ i. (prefix ++ bit_of (sym one i) octet ∷ []) ++ low_bits (sym one i) octet)

pub bits-all : (prefix : List Bool) (left octet : ℕ) → left ≡ 0 → bits_of_octet octet ≡ prefix ++ low_bits left octet
    → bits_of_octet octet ≡ prefix
bits-all prefix left octet none parts =
    parts ∙ ap (λ n. prefix ++ low_bits n octet) none ∙ ap (λ l. prefix ++ l) (low_bits-zero octet)
    ∙ append-nil prefix
