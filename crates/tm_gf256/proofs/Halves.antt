-- Sixteen octets at once, each converted by its two halves.
use Rattle.std.proofs.Common.{◌≡◌, ◌<◌, ◌+◌, ◌*◌, ◌/◌, ◌%◌, ◌^◌, ◌∙◌, ℕ, List, [], ◌∷◌, get_or, length, refl, sym, ap, eqb, true, arith, w8}
use Rattle.std.specs.Prelude.{bit_and, bit_xor, map}
use Rattle.std.proofs.lemmas.List.{ext_get_or, get_or-map, length-map}
use Rattle.std.proofs.lemmas.Nat.{and_mask}
use Rattle.std.proofs.lemmas.Simd.{swz_l, SwzOk, length-swz_l, get_or-swz_l_below, SwzOk-from_below, get_or-zip2, length-zip2, Each1-from_get_or, Each1-get_or}
use lib.Lanes.{zip2, Each1}
use mir.Val.{Fits}
use Rattle.tm_gf256.proofs.Below.{all_below, same_below}
use Rattle.tm_gf256.specs.Dual.{dual_element, dual_octet}
use Rattle.tm_gf256.specs.Halves.{AreHalves}
use Rattle.tm_gf256.specs.declared.dual.TheConstants.{OCTETS, ELEMENTS}
use Rattle.tm_gf256.specs.declared.dual_lanes.TheConstants.{LOW_OCTETS, HIGH_OCTETS, LOW_ELEMENTS, HIGH_ELEMENTS}
use Rattle.tm_gf256.proofs.DualEntries.{octet_at, element_at}

-- ---- the tables

octets_pass : all_below 256 (λ v. eqb (bit_xor (get_or LOW_OCTETS (v % 16) 0) (get_or HIGH_OCTETS (v / 16) 0))
    (get_or OCTETS v 0)) ≡ true
octets_pass = refl

elements_pass : all_below 256 (λ v. eqb (bit_xor (get_or LOW_ELEMENTS (v % 16) 0) (get_or HIGH_ELEMENTS (v / 16) 0))
    (get_or ELEMENTS v 0)) ≡ true
elements_pass = refl

pub octet_halves : AreHalves dual_octet LOW_OCTETS HIGH_OCTETS
octet_halves v lt =
    same_below 256 (λ v. bit_xor (get_or LOW_OCTETS (v % 16) 0) (get_or HIGH_OCTETS (v / 16) 0))
    (λ v. get_or OCTETS v 0) octets_pass v lt ∙ octet_at v lt

pub element_halves : AreHalves dual_element LOW_ELEMENTS HIGH_ELEMENTS
element_halves v lt =
    same_below 256 (λ v. bit_xor (get_or LOW_ELEMENTS (v % 16) 0) (get_or HIGH_ELEMENTS (v / 16) 0))
    (λ v. get_or ELEMENTS v 0) elements_pass v lt ∙ element_at v lt

-- ---- the lanes

abbrev fifteens : List ℕ
fifteens = 15 ∷ 15 ∷ 15 ∷ 15 ∷ 15 ∷ 15 ∷ 15 ∷ 15 ∷ 15 ∷ 15 ∷ 15 ∷ 15 ∷ 15 ∷ 15 ∷ 15 ∷ 15 ∷ []

abbrev fours : List ℕ
fours = 4 ∷ 4 ∷ 4 ∷ 4 ∷ 4 ∷ 4 ∷ 4 ∷ 4 ∷ 4 ∷ 4 ∷ 4 ∷ 4 ∷ 4 ∷ 4 ∷ 4 ∷ 4 ∷ []

fifteen_each : all_below 16 (λ i. eqb (get_or fifteens i 0) 15) ≡ true
fifteen_each = refl

four_each : all_below 16 (λ i. eqb (get_or fours i 0) 4) ≡ true
four_each = refl

abbrev pub low_places : List ℕ → List ℕ
low_places row = zip2 (λ a b. bit_and a b) row fifteens

abbrev pub high_places : List ℕ → List ℕ
high_places row = zip2 (λ a b. a / 2 ^ b) row fours

-- what a vector of places in a table holds
record ArePlaces (row js : List ℕ) (part : ℕ → ℕ) : Type 0 where
  long : length js ≡ 16
  each : (i : ℕ) → i < 16 → get_or js i 0 ≡ part (get_or row i 0)
  small : (i : ℕ) → i < 16 → get_or js i 0 < 16

lows : (row : List ℕ) → length row ≡ 16 → ArePlaces row (low_places row) (λ v. v % 16)
lows row long =
    let is : (i : ℕ) → i < 16 → get_or (zip2 (λ a b. bit_and a b) row fifteens) i 0 ≡ get_or row i 0 % 16 =
    λ i lt. get_or-zip2 (λ a b. bit_and a b) row fifteens i 0 0 0 (omega arith) lt
    ∙ ap (bit_and (get_or row i 0)) (same_below 16 (λ i. get_or fifteens i 0) (λ i. 15) fifteen_each i lt)
    ∙ and_mask (get_or row i 0) 4 in
    record {
      long = length-zip2 (λ a b. bit_and a b) row fifteens (omega arith) ∙ long;
      each = is;
      small = λ i lt. omega (arith, is i lt);
    }

highs : (row : List ℕ) → length row ≡ 16 → ((i : ℕ) → i < 16 → get_or row i 0 < 256)
    → ArePlaces row (high_places row) (λ v. v / 16)
highs row long fits =
    let is : (i : ℕ) → i < 16 → get_or (zip2 (λ a b. a / 2 ^ b) row fours) i 0 ≡ get_or row i 0 / 16 =
    λ i lt. get_or-zip2 (λ a b. a / 2 ^ b) row fours i 0 0 0 (omega arith) lt
    ∙ ap (λ (b : ℕ). get_or row i 0 / 2 ^ b) (same_below 16 (λ i. get_or fours i 0) (λ i. 4) four_each i lt) in
    record {
      long = length-zip2 (λ a b. a / 2 ^ b) row fours (omega arith) ∙ long;
      each = is;
      small = λ i lt. omega (arith, is i lt, fits i lt);
    }

places_fit : (row js : List ℕ) (part : ℕ → ℕ) → ArePlaces row js part → SwzOk w8 16 16 0 js
places_fit row js part h =
    SwzOk-from_below w8 16 1 16 0 js refl (omega (arith, h.long))
    (Each1-from_get_or (λ j. j < 16) js 0 (λ i lt. h.small i (omega (arith, h.long))))

taken : (xs row js : List ℕ) (part : ℕ → ℕ) (i : ℕ) → ArePlaces row js part → i < 16
    → get_or (swz_l w8 16 xs 0 js) i 0 ≡ get_or xs (part (get_or row i 0)) 0
taken xs row js part i h lt =
    let at : 16 * ((0 + i) / 16) + get_or js i 0 ≡ get_or js i 0 = omega arith in
    get_or-swz_l_below w8 16 xs 0 js i (omega (arith, h.long)) (h.small i lt)
    ∙ ap (λ (k : ℕ). get_or xs k 0) (at ∙ h.each i lt)

pub octets_small : (row : List ℕ) → length row ≡ 16 → Each1 (Fits w8) row → (i : ℕ) → i < 16 → get_or row i 0 < 256
octets_small row long fits i lt = (Each1-get_or (Fits w8) row i 0 (omega arith) fits).fits

pub low_fit : (row : List ℕ) → length row ≡ 16 → SwzOk w8 16 16 0 (low_places row)
low_fit row long = places_fit row (low_places row) (λ v. v % 16) (lows row long)

pub high_fit : (row : List ℕ) → length row ≡ 16 → ((i : ℕ) → i < 16 → get_or row i 0 < 256)
    → SwzOk w8 16 16 0 (high_places row)
high_fit row long fits = places_fit row (high_places row) (λ v. v / 16) (highs row long fits)

pub mapped_by_halves : (f : ℕ → ℕ) (low high row : List ℕ) → AreHalves f low high → length row ≡ 16
    → ((i : ℕ) → i < 16 → get_or row i 0 < 256)
    → zip2 bit_xor (swz_l w8 16 low 0 (low_places row)) (swz_l w8 16 high 0 (high_places row)) ≡ map f row
mapped_by_halves f low high row are long fits =
    let js = low_places row in
    let ks = high_places row in
    let hj = lows row long in
    let hk = highs row long fits in
    let lj : length (swz_l w8 16 low 0 js) ≡ 16 = length-swz_l w8 16 low 0 js ∙ hj.long in
    let lk : length (swz_l w8 16 high 0 ks) ≡ 16 = length-swz_l w8 16 high 0 ks ∙ hk.long in
    let all : length (zip2 bit_xor (swz_l w8 16 low 0 js) (swz_l w8 16 high 0 ks)) ≡ 16 =
    length-zip2 bit_xor (swz_l w8 16 low 0 js) (swz_l w8 16 high 0 ks) (omega arith) ∙ lj in
    ext_get_or 0 (zip2 bit_xor (swz_l w8 16 low 0 js) (swz_l w8 16 high 0 ks)) (map f row)
    (omega (arith, length-map row f))
    (λ i lt0.
    let lt : i < 16 = omega arith in
    get_or-zip2 bit_xor (swz_l w8 16 low 0 js) (swz_l w8 16 high 0 ks) i 0 0 0 (omega arith) (omega arith)
    ∙ (λ t. bit_xor (taken low row js (λ v. v % 16) i hj lt t) (taken high row ks (λ v. v / 16) i hk lt t))
    ∙ are (get_or row i 0) (fits i lt)
    ∙ sym (get_or-map f row i 0 0 (omega arith)))
