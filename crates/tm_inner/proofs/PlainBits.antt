-- The bits that octets hold where there is no inner code.
use Rattle.std.proofs.Common.{◌≡◌, ℕ, ◌+◌, ◌-◌, ◌*◌, ◌/◌, ◌%◌, ◌^◌, ◌≤◌, ◌<◌, ◌==◌, nat_le, if◌then◌else◌, Bool, true, false, List, [], ◌∷◌, ◌++◌, length, take, drop, map, min, Option, Some, None, refl, sym, ap, ◌∙◌, arith}
use Rattle.std.proofs.lemmas.List.{drop_all, drop-map, drop_min, length-map, map-append, take_rest}
use Rattle.std.proofs.lemmas.Bool.Decides.{nat_tests}
use Rattle.tm_base.specs.Bits.{bits_of, bit_number}
use Rattle.tm_base.proofs.Packing.{bits_of-append, bits_of-octets_of, length-bits_of}
use Rattle.tm_config.specs.Configuration.{Configuration, is_signed}
use Rattle.tm_config.specs.declared.values.SoftForm.{SoftForm}
use Rattle.tm_config.specs.declared.values.SoftForm.TheVariants.{Unsigned, Signed}
use Rattle.tm_conv.specs.declared.rates.Rate.{Rate}
use Rattle.tm_conv.specs.Encoding.{bit_numbers, level, levels}
use Rattle.tm_inner.specs.Symbols.{low_level, plain_symbols}
use Rattle.tm_inner.specs.Inner.{nearest_bit, plain_bits_by, plain_bits, plain_count, bits_at}

-- ---- one list after another

append-by : (pack : Bool) (c : Configuration) (xs ys : List ℕ)
    → plain_bits_by pack c (xs ++ ys) ≡ plain_bits_by pack c xs ++ plain_bits_by pack c ys
append-by true c xs ys = bits_of-append xs ys
append-by false c xs ys = map-append (nearest_bit c) xs ys

pub plain-append : (c : Configuration) (xs ys : List ℕ) → plain_bits c (xs ++ ys) ≡ plain_bits c xs ++ plain_bits c ys
plain-append c = append-by c.pack c

nil-by : (pack : Bool) (c : Configuration) → plain_bits_by pack c [] ≡ []
nil-by true c = refl
nil-by false c = refl

plain-nil : (c : Configuration) → plain_bits c [] ≡ []
plain-nil c = nil-by c.pack c

-- no octets have none, with an inner code or without
pub bits-nil : (rate : Option Rate) (c : Configuration) → bits_at rate c [] [] ≡ []
bits-nil None c = ap (drop c.skip) (plain-nil c) ∙ drop_all c.skip [] (omega arith)
bits-nil (Some rate) c = refl

-- ---- how many they are

length-by : (pack : Bool) (c : Configuration) (octets : List ℕ)
    → length (plain_bits_by pack c octets) ≡ (if pack then 8 * length octets else length octets)
length-by true c octets = length-bits_of octets
length-by false c octets = length-map octets (nearest_bit c)

pub length-plain : (c : Configuration) (octets : List ℕ) → length (plain_bits c octets) ≡ plain_count c (length octets)
length-plain c octets = length-by c.pack c octets

few-by : (pack : Bool) (n : ℕ) → (if pack then 8 * n else n) ≤ 8 * n
few-by true n = omega arith
few-by false n = omega arith

-- no more than eight for each octet
pub count-few : (c : Configuration) (n : ℕ) → plain_count c n ≤ 8 * n
count-few c n = few-by c.pack n

pub plain-few : (c : Configuration) (octets : List ℕ) → length (plain_bits c octets) ≤ 8 * length octets
plain-few c octets = omega (arith, length-plain c octets, count-few c (length octets))

-- ---- octets that were sent

bit-sent : (c : Configuration) (bit : Bool) → nearest_bit c (level (low_level c.soft) (bit_number bit)) ≡ bit
bit-sent c bit = go c.soft bit
  where
    go : (form : SoftForm) (bit : Bool)
        → (let octet = level (low_level form) (bit_number bit) in
        nat_le 128 (if is_signed form then (octet + 128) % 256 else octet)) ≡ bit
    go Unsigned true = refl
    go Unsigned false = refl
    go Signed true = refl
    go Signed false = refl

bits-sent : (c : Configuration) (bits : List Bool) → map (nearest_bit c)
    (levels (low_level c.soft) (bit_numbers bits)) ≡ bits
bits-sent c [] = refl
bits-sent c (bit ∷ bits) = (λ i. bit-sent c bit i ∷ bits-sent c bits i)

sent-by : (pack : Bool) (c : Configuration) (octets : List ℕ)
    → plain_bits_by pack c (plain_symbols pack c (bits_of octets)) ≡ bits_of octets
sent-by true c octets = bits_of-octets_of (bits_of octets) (omega (arith, length-bits_of octets))
sent-by false c octets = bits-sent c (bits_of octets)

pub plain-sent : (c : Configuration) (octets : List ℕ) → plain_bits c (plain_symbols c.pack c (bits_of octets))
    ≡ bits_of octets
plain-sent c octets = sent-by c.pack c octets

-- ---- packed or not

pub plain-packed : (c : Configuration) (octets : List ℕ) → c.pack ≡ true → plain_bits c octets ≡ bits_of octets
plain-packed c octets is = ap (λ (pack : Bool). plain_bits_by pack c octets) is

pub plain-nearest : (c : Configuration) (octets : List ℕ) → c.pack ≡ false
    → plain_bits c octets ≡ map (nearest_bit c) octets
plain-nearest c octets is = ap (λ (pack : Bool). plain_bits_by pack c octets) is

-- ---- bits that are nearest to octets, after the first ones

pub nearest-after : (c : Configuration) (skip from : ℕ) (octets bits : List ℕ) → from ≡ min skip (length octets)
    → map (λ bit. bit == 1) bits ≡ map (nearest_bit c) (take (length octets - from) (drop from octets))
    → map (λ bit. bit == 1) bits ≡ drop skip (map (nearest_bit c) octets)
nearest-after c skip from octets bits is are =
    are ∙ ap (map (nearest_bit c)) (take_rest octets from ∙ ap (λ n. drop n octets) is ∙ drop_min skip octets)
    ∙ sym (drop-map (nearest_bit c) skip octets)

-- ---- an octet's bit, read from its soft value

pub top_bit : (value : ℕ) → value < 256 → (value / 2 ^ 7 == 1) ≡ nat_le 128 value
top_bit value small = grind (arith, nat_tests)
