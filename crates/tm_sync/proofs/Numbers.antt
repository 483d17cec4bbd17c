-- The number that bits are, and the bits in which two numbers differ.
use Rattle.std.proofs.Common.{◌≡◌, ℕ, zero, suc, ◌+◌, ◌*◌, ◌%◌, ◌^◌, ◌<◌, Bool, true, false, List, [], ◌∷◌, ◌++◌, length, refl, ap, ◌∙◌, arith, lit<, bit_xor, count_ones}
use Rattle.std.proofs.lemmas.Nat.{xor_block, ones_cat}
use Rattle.std.specs.List.{fold}
use Rattle.tm_base.specs.Bits.{bit_number, number_of, low_bits}
use Rattle.tm_sync.specs.Bits.{difference, differences, marker_bits}

-- the number that bits are, the first one worth most, after the bits of `high`
abbrev pub value_from : ℕ → List Bool → ℕ
value_from high [] = high
value_from high (b ∷ bits) = value_from (high * 2 + bit_number b) bits

pub number-value : (bits : List Bool) → number_of bits ≡ value_from 0 bits
number-value bits = go bits 0
  where
    go : (bits : List Bool) (high : ℕ) → fold (λ number bit. number * 2 + bit_number bit) high bits
        ≡ value_from high bits
    go [] high = refl
    go (b ∷ bits) high = go bits (high * 2 + bit_number b)

pub bit_small : (b : Bool) → bit_number b < 2 ^ 1
bit_small true = lit< tt
bit_small false = lit< tt

difference-ones : (x y : Bool) → count_ones (bit_xor (bit_number x) (bit_number y)) ≡ difference x y
unfolding lib.Count.ones
difference-ones true true = refl
difference-ones true false = refl
difference-ones false true = refl
difference-ones false false = refl

one_more : (a c : ℕ) (x y : Bool) → count_ones (bit_xor (a * 2 + bit_number x) (c * 2 + bit_number y))
    ≡ count_ones (bit_xor a c) + difference x y
one_more a c x y =
    ap count_ones (xor_block 1 a c (bit_number x) (bit_number y) (bit_small x) (bit_small y))
    ∙ ones_cat 1 (bit_xor a c) (bit_xor (bit_number x) (bit_number y)) (small x y)
    ∙ ap (λ n. count_ones (bit_xor a c) + n) (difference-ones x y)
  where
    small : (x y : Bool) → bit_xor (bit_number x) (bit_number y) < 2 ^ 1
    small true true = lit< tt
    small true false = lit< tt
    small false true = lit< tt
    small false false = lit< tt

-- the ones of the exclusive or are the places at which the bits differ
pub ones-value : (xs ys : List Bool) (a c : ℕ) → length xs ≡ length ys
    → count_ones (bit_xor (value_from a xs) (value_from c ys)) ≡ count_ones (bit_xor a c) + differences xs ys
ones-value [] [] a c e = omega arith
ones-value [] (y ∷ ys) a c e = absurd (omega arith)
ones-value (x ∷ xs) [] a c e = absurd (omega arith)
ones-value (x ∷ xs) (y ∷ ys) a c e =
    let rest = ones-value xs ys (a * 2 + bit_number x) (c * 2 + bit_number y) (omega arith) in
    let one = one_more a c x y in
    omega arith

pub value-append : (xs ys : List Bool) (high : ℕ) → value_from high (xs ++ ys) ≡ value_from (value_from high xs) ys
value-append [] ys high = refl
value-append (x ∷ xs) ys high = value-append xs ys (high * 2 + bit_number x)

pub value-high : (xs : List Bool) (high : ℕ) → value_from high xs ≡ high * 2 ^ length xs + value_from 0 xs
value-high [] high = omega arith
value-high (x ∷ xs) high =
    let both = value-high xs (high * 2 + bit_number x) in
    let low = value-high xs (0 * 2 + bit_number x) in
    let p : ℕ = 2 ^ length xs in
    let both' : value_from (high * 2 + bit_number x) xs ≡ (high * 2 + bit_number x) * p + value_from 0 xs = both in
    let low' : value_from (0 * 2 + bit_number x) xs ≡ (0 * 2 + bit_number x) * p + value_from 0 xs = low in
    let twice : 2 ^ length (x ∷ xs) ≡ 2 * p = grind arith in
    rw (both', low', twice) (grind arith)

pub value-lt : (xs : List Bool) → value_from 0 xs < 2 ^ length xs
value-lt [] = lit< tt
value-lt (x ∷ xs) =
    let d : ℕ = 0 * 2 + bit_number x in
    let bit = bit_small x in
    let one : d < 2 = omega arith in
    let p : ℕ = 2 ^ length xs in
    let v : ℕ = value_from 0 xs in
    let high : value_from d xs ≡ d * p + v = value-high xs d in
    let small : v < p = value-lt xs in
    let twice : 2 ^ length (x ∷ xs) ≡ 2 * p = grind arith in
    rw (high, twice) (within d p v one small)
  where
    within : (d p v : ℕ) → d < 2 → v < p → d * p + v < 2 * p
    within zero p v one small = omega arith
    within (suc zero) p v one small = omega arith
    within (suc (suc d)) p v one small = absurd (omega arith)

-- the last 32 bits are the number's lowest ones
pub value-last : (prefix last : List Bool) → length last ≡ 32
    → value_from 0 (prefix ++ last) % 2 ^ 32 ≡ value_from 0 last
value-last prefix last e =
    let v : ℕ = value_from 0 last in
    let a : ℕ = value_from 0 prefix in
    let all : value_from 0 (prefix ++ last) ≡ a * 2 ^ length last + v = value-append prefix last 0
    ∙ value-high last a in
    let p : 2 ^ length last ≡ 4294967296 = ap (λ n. 2 ^ n) e in
    let small : v < 2 ^ length last = value-lt last in
    rw (all, p) (omega arith)

no_ones : count_ones (bit_xor 0 0) ≡ 0
unfolding lib.Count.ones
no_ones = refl

-- the bits in which 32 bits differ from the marker
pub ones-marker : (bits : List Bool) → length bits ≡ 32 → count_ones (bit_xor (value_from 0 bits) 0x1ACFFC1D)
    ≡ differences bits marker_bits
unfolding low_bits
ones-marker bits long =
    ones-value bits marker_bits 0 0 long ∙ ap (λ n. n + differences bits marker_bits) no_ones ∙ omega arith

pub length-marker_bits : length marker_bits ≡ 32
unfolding low_bits
length-marker_bits = refl
