-- Laws of masking: octet by octet, twice, and of what follows whole periods.
use Rattle.std.proofs.Common.{◌≡◌, ℕ, zero, suc, ◌+◌, ◌*◌, ◌/◌, ◌%◌, ◌<◌, Bool, true, false, List, [], ◌∷◌, ◌++◌, length, get_or, bit_xor, refl, sym, ap, ◌∙◌, arith}
use Rattle.std.proofs.Math.Bool.{xor}
use Rattle.std.proofs.lemmas.Nat.{xor_block}
use Rattle.std.proofs.lemmas.List.Elements.{All-append}
use Rattle.std.specs.List.{fold}
use Rattle.std.specs.Simd.Lanes.{zip2}
use Rattle.tm_base.specs.Bits.{low_bits, bits_of, bit_number, number_of, octets_of, AreOctets}
use Rattle.tm_base.proofs.Packing.{length-low_bits, number_of-octet, AreOctets-rest, AreOctets-octets_of, octets_of-bits_of, bits_of-octets_of, length-bits_of, length-octets_of}
use Rattle.tm_codeblock.specs.Sequence.{sequence_bit}
use Rattle.tm_codeblock.specs.Masked.{masked_from, masked}
use Rattle.tm_codeblock.proofs.Sequences.{sequence_bits, length-sequence_bits, sequence_bits-periods}

bit_xor-bits : (a b : Bool) → bit_xor (bit_number a) (bit_number b) ≡ bit_number (xor a b)
unfolding xor
bit_xor-bits true true = refl
bit_xor-bits true false = refl
bit_xor-bits false true = refl
bit_xor-bits false false = refl

small : (a : Bool) → bit_number a < 2
small true = omega arith
small false = omega arith

fold-xor : (a b : ℕ) (xs ys : List Bool) → length xs ≡ length ys
    → fold (λ n bit. n * 2 + bit_number bit) (bit_xor a b) (zip2 xor xs ys)
    ≡ bit_xor (fold (λ n bit. n * 2 + bit_number bit) a xs) (fold (λ n bit. n * 2 + bit_number bit) b ys)
fold-xor a b [] [] long = refl
fold-xor a b [] (y ∷ ys) long = absurd (omega arith)
fold-xor a b (x ∷ xs) [] long = absurd (omega arith)
fold-xor a b (x ∷ xs) (y ∷ ys) long =
    ap (λ n. fold (λ n bit. n * 2 + bit_number bit) n (zip2 xor xs ys))
    (ap (λ n. bit_xor a b * 2 + n) (sym (bit_xor-bits x y))
    ∙ sym (xor_block 1 a b (bit_number x) (bit_number y) (small x) (small y)))
    ∙ fold-xor (a * 2 + bit_number x) (b * 2 + bit_number y) xs ys (omega arith)

-- the number of bits added modulo 2
number_of-xor : (xs ys : List Bool) → length xs ≡ length ys
    → number_of (zip2 xor xs ys) ≡ bit_xor (number_of xs) (number_of ys)
number_of-xor xs ys long = fold-xor 0 0 xs ys long

-- eight bits further on
abbrev pub eight_on : ℕ → ℕ
eight_on k = suc (suc (suc (suc (suc (suc (suc (suc k)))))))

-- the octet of the sequence that begins at bit k
abbrev pub sequence_octet : ℕ → ℕ
sequence_octet k = number_of (sequence_bits k 8)

-- octets with those of the sequence from bit k on
pub with_octets : ℕ → List ℕ → List ℕ
with_octets k [] = []
with_octets k (x ∷ xs) = bit_xor x (sequence_octet k) ∷ with_octets (eight_on k) xs

masked_octet : (k octet : ℕ) (bits : List Bool) → octets_of (masked_from k (low_bits 8 octet ++ bits))
    ≡ number_of (zip2 xor (low_bits 8 octet) (sequence_bits k 8)) ∷ octets_of (masked_from (eight_on k) bits)
unfolding low_bits sequence_bits
masked_octet k octet bits = refl

pub masked-with_octets : (k : ℕ) (octets : List ℕ) → AreOctets octets
    → octets_of (masked_from k (bits_of octets)) ≡ with_octets k octets
unfolding with_octets
masked-with_octets k [] are = refl
masked-with_octets k (octet ∷ octets) are =
    masked_octet k octet (bits_of octets)
    ∙ (λ t. (number_of-xor (low_bits 8 octet) (sequence_bits k 8)
    (length-low_bits 8 octet ∙ sym (length-sequence_bits 8 k))
    ∙ ap (λ n. bit_xor n (sequence_octet k)) (number_of-octet octet (are 0 0 (omega arith)))) t
    ∷ masked-with_octets (eight_on k) octets (AreOctets-rest octet octets are) t)

pub length-with_octets : (k : ℕ) (octets : List ℕ) → length (with_octets k octets) ≡ length octets
unfolding with_octets
length-with_octets k [] = refl
length-with_octets k (x ∷ xs) = ap suc (length-with_octets (eight_on k) xs)

pub get_or-with_octets : (k : ℕ) (octets : List ℕ) (n : ℕ) → n < length octets
    → get_or (with_octets k octets) n 0 ≡ bit_xor (get_or octets n 0) (sequence_octet (k + 8 * n))
unfolding with_octets
get_or-with_octets k [] n within = absurd (omega arith)
get_or-with_octets k (x ∷ xs) zero within =
    let same : k ≡ k + 8 * 0 = omega arith in ap (λ n. bit_xor x (sequence_octet n)) same
get_or-with_octets k (x ∷ xs) (suc n) within =
    let same : eight_on k + 8 * n ≡ k + 8 * suc n = omega arith in
    get_or-with_octets (eight_on k) xs n (omega arith) ∙ ap (λ m. bit_xor (get_or xs n 0) (sequence_octet m)) same

with_octets-append : (k : ℕ) (xs ys : List ℕ) → with_octets k (xs ++ ys) ≡ with_octets k xs
    ++ with_octets (k + 8 * length xs) ys
unfolding with_octets
with_octets-append k [] ys = let same : k ≡ k + 8 * 0 = omega arith in ap (λ n. with_octets n ys) same
with_octets-append k (x ∷ xs) ys =
    let same : eight_on k + 8 * length xs ≡ k + 8 * suc (length xs) = omega arith in
    ap (λ l. bit_xor x (sequence_octet k) ∷ l) (with_octets-append (eight_on k) xs ys
    ∙ ap (λ n. with_octets (eight_on k) xs ++ with_octets n ys) same)

with_octets-periods : (times k : ℕ) (octets : List ℕ) → with_octets (k + 255 * times) octets ≡ with_octets k octets
unfolding with_octets
with_octets-periods times k [] = refl
with_octets-periods times k (x ∷ xs) =
    let same : eight_on (k + 255 * times) ≡ eight_on k + 255 * times = omega arith in
    (λ t. bit_xor x (number_of (sequence_bits-periods 8 times k t))
    ∷ (ap (λ n. with_octets n xs) same ∙ with_octets-periods times (eight_on k) xs) t)

-- what follows whole periods of octets is masked as from the start
pub masked-append : (xs ys : List ℕ) → AreOctets xs → AreOctets ys → length xs % 255 ≡ 0
    → masked (xs ++ ys) ≡ masked xs ++ masked ys
masked-append xs ys are too whole =
    let start : 0 + 8 * length xs ≡ 0 + 255 * (8 * (length xs / 255)) = omega arith in
    masked-with_octets 0 (xs ++ ys) (All-append (λ octet. octet < 256) xs ys are too)
    ∙ with_octets-append 0 xs ys
    ∙ ap (λ l. with_octets 0 xs ++ l) (ap (λ n. with_octets n ys) start
    ∙ with_octets-periods (8 * (length xs / 255)) 0 ys)
    ∙ (λ t. sym (masked-with_octets 0 xs are) t ++ sym (masked-with_octets 0 ys too) t)

pub length-masked_from : (k : ℕ) (bits : List Bool) → length (masked_from k bits) ≡ length bits
length-masked_from k [] = refl
length-masked_from k (bit ∷ bits) = ap suc (length-masked_from (suc k) bits)

pub length-masked : (octets : List ℕ) → length (masked octets) ≡ length octets
length-masked octets =
    length-octets_of (masked_from 0 (bits_of octets))
    ∙ omega (arith, length-masked_from 0 (bits_of octets), length-bits_of octets)

pub AreOctets-masked : (octets : List ℕ) → AreOctets (masked octets)
AreOctets-masked octets = AreOctets-octets_of (masked_from 0 (bits_of octets))

xor_twice : (a b : Bool) → xor (xor a b) b ≡ a
unfolding xor
xor_twice true true = refl
xor_twice true false = refl
xor_twice false true = refl
xor_twice false false = refl

pub masked_from-twice : (k : ℕ) (bits : List Bool) → masked_from k (masked_from k bits) ≡ bits
masked_from-twice k [] = refl
masked_from-twice k (bit ∷ bits) = (λ t. xor_twice bit (sequence_bit k) t ∷ masked_from-twice (suc k) bits t)

-- masking twice changes nothing
pub masked-twice : (octets : List ℕ) → AreOctets octets → masked (masked octets) ≡ octets
masked-twice octets are =
    ap (λ bits. octets_of (masked_from 0 bits)) (bits_of-octets_of (masked_from 0 (bits_of octets))
    (omega (arith, length-masked_from 0 (bits_of octets), length-bits_of octets)))
    ∙ ap octets_of (masked_from-twice 0 (bits_of octets))
    ∙ octets_of-bits_of octets are
