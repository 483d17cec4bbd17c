-- Bits and octets, there and back.
use Rattle.std.proofs.Common.{◌≡◌, ℕ, zero, suc, ◌+◌, ◌*◌, ◌/◌, ◌%◌, ◌^◌, ◌<◌, ◌==◌, Bool, true, false, List, [], ◌∷◌, ◌++◌, length, take, drop, refl, sym, ap, ◌∙◌, arith, append_assoc, length-append, add-mul, mul_assoc}
use mir.Val.{bool_byte}
use Rattle.std.proofs.Math.Nat.{div-div-eq-div-mul, div-one}
use Rattle.std.proofs.lemmas.Nat.{mod-pow-add}
use Rattle.std.proofs.lemmas.List.{append-nil}
use Rattle.std.proofs.lemmas.List.Elements.{All-cons}
use Rattle.std.proofs.lemmas.Bool.Decides.{nat_tests}
use Rattle.std.specs.List.{fold}
use Rattle.tm_base.specs.Bits.{low_bits, bits_of_octet, bits_of, bit_number, number_of, octets_of, AreOctets}

-- a `bool` cast to a number
pub bool_byte-bit_number : (bit : Bool) → bool_byte bit ≡ bit_number bit
bool_byte-bit_number true = refl
bool_byte-bit_number false = refl

-- a bit read from a number, as a number
pub bit_number-odd : (number : ℕ) → bit_number (number % 2 == 1) ≡ number % 2
bit_number-odd number = go (number % 2) (omega arith)
  where
    go : (rest : ℕ) → rest < 2 → bit_number (rest == 1) ≡ rest
    go zero small = refl
    go (suc zero) small = refl
    go (suc (suc rest)) small = absurd (omega arith)

pub low_bits-zero : (number : ℕ) → low_bits 0 number ≡ []
unfolding low_bits
low_bits-zero number = refl

-- the first of the bits, and the others
pub low_bits-first : (count number : ℕ) → low_bits (suc count) number ≡ (number / 2 ^ count % 2 == 1)
    ∷ low_bits count number
unfolding low_bits
low_bits-first count number = refl

pub length-low_bits : (count number : ℕ) → length (low_bits count number) ≡ count
unfolding low_bits
length-low_bits zero number = refl
length-low_bits (suc count) number = ap suc (length-low_bits count number)

-- a bit after the others
pub low_bits-push : (count number : ℕ) (bit : Bool) → low_bits (suc count) (number * 2 + bit_number bit)
    ≡ low_bits count number ++ bit ∷ []
unfolding low_bits
low_bits-push zero number bit =
    ap (λ b. b ∷ []) (ap (λ n. n % 2 == 1) (div-one (number * 2 + bit_number bit)) ∙ last number bit)
  where
    last : (number : ℕ) (bit : Bool) → ((number * 2 + bit_number bit) % 2 == 1) ≡ bit
    last number true = grind (arith, nat_tests)
    last number false = grind (arith, nat_tests)
low_bits-push (suc count) number bit =
    (λ i. (same i % 2 == 1) ∷ low_bits-push count number bit i)
  where
    half : (bit : Bool) → (number * 2 + bit_number bit) / 2 ≡ number
    half true = omega arith
    half false = omega arith

    power : 2 ^ suc count ≡ 2 * 2 ^ count
    power = omega arith

    same : (number * 2 + bit_number bit) / 2 ^ suc count ≡ number / 2 ^ count
    same =
        ap (λ n. (number * 2 + bit_number bit) / n) power
        ∙ sym (div-div-eq-div-mul (number * 2 + bit_number bit) 2 (2 ^ count)) ∙ ap (λ n. n / 2 ^ count) (half bit)

-- the digits of a number that goes on by some bits
low_bits-fold : (count number : ℕ) (bits : List Bool) → low_bits (count + length bits)
    (fold (λ n bit. n * 2 + bit_number bit) number bits) ≡ low_bits count number ++ bits
low_bits-fold count number [] = ap (λ n. low_bits n number) (omega arith) ∙ sym (append-nil (low_bits count number))
low_bits-fold count number (bit ∷ bits) =
    ap (λ n. low_bits n (fold (λ n bit. n * 2 + bit_number bit) (number * 2 + bit_number bit) bits)) more
    ∙ low_bits-fold (suc count) (number * 2 + bit_number bit) bits
    ∙ ap (λ l. l ++ bits) (low_bits-push count number bit)
    ∙ append_assoc (low_bits count number) (bit ∷ []) bits
  where
    more : count + length (bit ∷ bits) ≡ suc count + length bits
    more = omega arith

-- the digits of the number of some bits are these bits
pub low_bits-number_of : (bits : List Bool) → low_bits (length bits) (number_of bits) ≡ bits
low_bits-number_of bits =
    ap (λ n. low_bits n (number_of bits)) (omega arith) ∙ low_bits-fold 0 0 bits
    ∙ ap (λ l. l ++ bits) (low_bits-zero 0)

fold-low_bits : (count number prefix : ℕ) → fold (λ n bit. n * 2 + bit_number bit) prefix (low_bits count number)
    ≡ prefix * 2 ^ count + number % 2 ^ count
fold-low_bits zero number prefix =
    ap (fold (λ n bit. n * 2 + bit_number bit) prefix) (low_bits-zero number) ∙ omega arith
fold-low_bits (suc count) number prefix =
    ap (fold (λ n bit. n * 2 + bit_number bit) prefix) (low_bits-first count number)
    ∙ fold-low_bits count number (prefix * 2 + bit_number (number / 2 ^ count % 2 == 1))
    ∙ ap (λ n. (prefix * 2 + n) * 2 ^ count + number % 2 ^ count) (bit_number-odd (number / 2 ^ count))
    ∙ shifted prefix (number / 2 ^ count % 2) (2 ^ count) (number % 2 ^ count)
    ∙ (λ i. prefix * power i + lowest i)
  where
    lowest : (number / 2 ^ count % 2) * 2 ^ count + number % 2 ^ count ≡ number % 2 ^ suc count
    lowest =
        let one : 1 + count ≡ suc count = omega arith in sym (mod-pow-add number 1 count)
        ∙ ap (λ n. number % 2 ^ n) one

    shifted : (prefix bit place rest : ℕ) → (prefix * 2 + bit) * place + rest
        ≡ prefix * (2 * place) + (bit * place + rest)
    shifted prefix bit place rest =
        let one = add-mul (prefix * 2) bit place in
        let two = mul_assoc prefix 2 place in
        omega (arith, one, two)

    power : 2 * 2 ^ count ≡ 2 ^ suc count
    power = omega arith

-- the number of the lowest bits of a number
pub number_of-low_bits : (count number : ℕ) → number_of (low_bits count number) ≡ number % 2 ^ count
number_of-low_bits count number = fold-low_bits count number 0 ∙ omega arith

pub number_of-octet : (octet : ℕ) → octet < 256 → number_of (bits_of_octet octet) ≡ octet
number_of-octet octet small = number_of-low_bits 8 octet ∙ omega arith

pub length-bits_of : (octets : List ℕ) → length (bits_of octets) ≡ 8 * length octets
length-bits_of [] = omega arith
length-bits_of (octet ∷ octets) =
    length-append (bits_of_octet octet) (bits_of octets)
    ∙ omega (arith, length-low_bits 8 octet, length-bits_of octets)

pub bits_of-append : (xs ys : List ℕ) → bits_of (xs ++ ys) ≡ bits_of xs ++ bits_of ys
bits_of-append [] ys = refl
bits_of-append (x ∷ xs) ys =
    ap (λ l. bits_of_octet x ++ l) (bits_of-append xs ys)
    ∙ sym (append_assoc (bits_of_octet x) (bits_of xs) (bits_of ys))

pub bits_of-take : (count : ℕ) (octets : List ℕ) → bits_of (take count octets) ≡ take (8 * count) (bits_of octets)
unfolding low_bits
bits_of-take zero octets = refl
bits_of-take (suc count) [] =
    let some : 8 * suc count ≡ suc (7 + 8 * count) = omega arith in ap (λ n. take n (bits_of [])) (sym some)
bits_of-take (suc count) (octet ∷ octets) =
    let eight : suc (suc (suc (suc (suc (suc (suc (suc (8 * count)))))))) ≡ 8 * suc count = omega arith in
    ap (λ l. bits_of_octet octet ++ l) (bits_of-take count octets)
    ∙ ap (λ n. take n (bits_of_octet octet ++ bits_of octets)) eight

pub bits_of-drop : (count : ℕ) (octets : List ℕ) → bits_of (drop count octets) ≡ drop (8 * count) (bits_of octets)
unfolding low_bits
bits_of-drop zero octets = refl
bits_of-drop (suc count) [] =
    let some : 8 * suc count ≡ suc (7 + 8 * count) = omega arith in ap (λ n. drop n (bits_of [])) (sym some)
bits_of-drop (suc count) (octet ∷ octets) =
    let eight : suc (suc (suc (suc (suc (suc (suc (suc (8 * count)))))))) ≡ 8 * suc count = omega arith in
    bits_of-drop count octets ∙ ap (λ n. drop n (bits_of_octet octet ++ bits_of octets)) eight

-- the bits of an octet, packed
octets_of-octet : (octet : ℕ) (bits : List Bool) → octets_of (bits_of_octet octet ++ bits)
    ≡ number_of (bits_of_octet octet) ∷ octets_of bits
unfolding low_bits
octets_of-octet octet bits = refl

pub AreOctets-rest : (octet : ℕ) (octets : List ℕ) → AreOctets (octet ∷ octets) → AreOctets octets
AreOctets-rest octet octets are = λ k d within. are (suc k) d (omega arith)

-- packing undoes the reading of bits, whatever bits follow
pub octets_of-bits_of-append : (octets : List ℕ) (bits : List Bool) → AreOctets octets
    → octets_of (bits_of octets ++ bits) ≡ octets ++ octets_of bits
octets_of-bits_of-append [] bits are = refl
octets_of-bits_of-append (octet ∷ octets) bits are =
    ap octets_of (append_assoc (bits_of_octet octet) (bits_of octets) bits)
    ∙ octets_of-octet octet (bits_of octets ++ bits)
    ∙ (λ i. number_of-octet octet (are 0 0 (omega arith)) i
    ∷ octets_of-bits_of-append octets bits (AreOctets-rest octet octets are) i)

pub octets_of-bits_of : (octets : List ℕ) → AreOctets octets → octets_of (bits_of octets) ≡ octets
octets_of-bits_of octets are =
    ap octets_of (sym (append-nil (bits_of octets))) ∙ octets_of-bits_of-append octets [] are ∙ append-nil octets

-- reading bits undoes the packing of whole octets
pub bits_of-octets_of : (bits : List Bool) → length bits % 8 ≡ 0 → bits_of (octets_of bits) ≡ bits
bits_of-octets_of [] whole = refl
bits_of-octets_of (a ∷ b ∷ c ∷ d ∷ e ∷ f ∷ g ∷ h ∷ bits) whole =
    (λ i. low_bits-number_of (a ∷ b ∷ c ∷ d ∷ e ∷ f ∷ g ∷ h ∷ []) i ++ bits_of-octets_of bits (omega arith) i)
bits_of-octets_of (a ∷ []) whole = absurd (omega arith)
bits_of-octets_of (a ∷ b ∷ []) whole = absurd (omega arith)
bits_of-octets_of (a ∷ b ∷ c ∷ []) whole = absurd (omega arith)
bits_of-octets_of (a ∷ b ∷ c ∷ d ∷ []) whole = absurd (omega arith)
bits_of-octets_of (a ∷ b ∷ c ∷ d ∷ e ∷ []) whole = absurd (omega arith)
bits_of-octets_of (a ∷ b ∷ c ∷ d ∷ e ∷ f ∷ []) whole = absurd (omega arith)
bits_of-octets_of (a ∷ b ∷ c ∷ d ∷ e ∷ f ∷ g ∷ []) whole = absurd (omega arith)

pub length-octets_of : (bits : List Bool) → length (octets_of bits) ≡ length bits / 8
length-octets_of [] = refl
length-octets_of (a ∷ b ∷ c ∷ d ∷ e ∷ f ∷ g ∷ h ∷ bits) = omega (arith, length-octets_of bits)
length-octets_of (a ∷ []) = refl
length-octets_of (a ∷ b ∷ []) = refl
length-octets_of (a ∷ b ∷ c ∷ []) = refl
length-octets_of (a ∷ b ∷ c ∷ d ∷ []) = refl
length-octets_of (a ∷ b ∷ c ∷ d ∷ e ∷ []) = refl
length-octets_of (a ∷ b ∷ c ∷ d ∷ e ∷ f ∷ []) = refl
length-octets_of (a ∷ b ∷ c ∷ d ∷ e ∷ f ∷ g ∷ []) = refl

-- what is packed are octets
pub AreOctets-octets_of : (bits : List Bool) → AreOctets (octets_of bits)
AreOctets-octets_of [] = λ k d within. absurd (omega arith)
AreOctets-octets_of (a ∷ b ∷ c ∷ d ∷ e ∷ f ∷ g ∷ h ∷ bits) =
    All-cons (λ octet. octet < 256) (number_of (a ∷ b ∷ c ∷ d ∷ e ∷ f ∷ g ∷ h ∷ [])) (octets_of bits)
    (let is = number_of-low_bits 8 (number_of (a ∷ b ∷ c ∷ d ∷ e ∷ f ∷ g ∷ h ∷ [])) in
    let same = ap number_of (low_bits-number_of (a ∷ b ∷ c ∷ d ∷ e ∷ f ∷ g ∷ h ∷ [])) in
    omega (arith, is, same))
    (AreOctets-octets_of bits)
AreOctets-octets_of (a ∷ []) = λ k d within. absurd (omega arith)
AreOctets-octets_of (a ∷ b ∷ []) = λ k d within. absurd (omega arith)
AreOctets-octets_of (a ∷ b ∷ c ∷ []) = λ k d within. absurd (omega arith)
AreOctets-octets_of (a ∷ b ∷ c ∷ d ∷ []) = λ k i within. absurd (omega arith)
AreOctets-octets_of (a ∷ b ∷ c ∷ d ∷ e ∷ []) = λ k i within. absurd (omega arith)
AreOctets-octets_of (a ∷ b ∷ c ∷ d ∷ e ∷ f ∷ []) = λ k i within. absurd (omega arith)
AreOctets-octets_of (a ∷ b ∷ c ∷ d ∷ e ∷ f ∷ g ∷ []) = λ k i within. absurd (omega arith)

-- whole octets before other bits are packed by themselves
pub octets_of-append : (prefix bits : List Bool) → length prefix % 8 ≡ 0
    → octets_of (prefix ++ bits) ≡ octets_of prefix ++ octets_of bits
octets_of-append prefix bits whole =
    ap (λ l. octets_of (l ++ bits)) (sym (bits_of-octets_of prefix whole))
    ∙ octets_of-bits_of-append (octets_of prefix) bits (AreOctets-octets_of prefix)
