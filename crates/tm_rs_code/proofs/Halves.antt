-- Products by the halves of an octet.
use Rattle.std.proofs.Common.{◌≡◌, ◌<◌, ◌+◌, ◌*◌, ◌/◌, ◌%◌, ◌∙◌, ℕ, suc, zero, List, [], ◌∷◌, get_or, length, refl, sym, ap, eqb, true, arith, w8}
use Rattle.std.specs.Prelude.{bit_xor}
use Rattle.std.proofs.lemmas.Simd.{swz_l, SwzOk, length-swz_l, get_or-swz_l_below, SwzOk-from_below, get_or-zip2, length-zip2, Each1-from_get_or}
use lib.Lanes.{zip2}
use Rattle.tm_gf256.specs.Field.{times, bit_product, remainder}
use Rattle.tm_gf256.proofs.Below.{all_below, same_below}
use Rattle.tm_gf256.proofs.Ring.{times-plus}
use Rattle.tm_rs_code.specs.Register.{multiple}
use Rattle.tm_rs_code.proofs.ProductRows.{are_products, are_rows, row_at}
use Rattle.tm_rs_code.specs.declared.lanes.TheConstants.{LOW_PLACES, HIGH_PLACES}
use Rattle.tm_rs_code.specs.declared.lanes.products.TheConstants.{LOW, HIGH}

-- ---- the tables

low_pass : are_rows 0 LOW_PLACES LOW ≡ true
unfolding are_rows are_products times bit_product remainder
low_pass = refl

high_pass : are_rows 0 HIGH_PLACES HIGH ≡ true
unfolding are_rows are_products times bit_product remainder
high_pass = refl

pub low_is : (f : ℕ) → f < 256 → get_or LOW f [] ≡ multiple f LOW_PLACES
low_is f lt =
    let same : 0 + f ≡ f = omega arith in row_at 0 LOW_PLACES LOW f low_pass lt
    ∙ ap (λ (v : ℕ). multiple v LOW_PLACES) same

pub high_is : (f : ℕ) → f < 256 → get_or HIGH f [] ≡ multiple f HIGH_PLACES
high_is f lt =
    let same : 0 + f ≡ f = omega arith in row_at 0 HIGH_PLACES HIGH f high_pass lt
    ∙ ap (λ (v : ℕ). multiple v HIGH_PLACES) same

-- ---- entries

pub get_or-multiple : (f : ℕ) (xs : List ℕ) (i : ℕ) → i < length xs
    → get_or (multiple f xs) i 0 ≡ times f (get_or xs i 0)
get_or-multiple f [] i lt = absurd (omega arith)
get_or-multiple f (x ∷ xs) zero lt = refl
get_or-multiple f (x ∷ xs) (suc i) lt = get_or-multiple f xs i (omega arith)

places_low : all_below 16 (λ i. eqb (get_or LOW_PLACES i 0) i) ≡ true
places_low = refl

places_high : all_below 16 (λ i. eqb (get_or HIGH_PLACES i 0) (16 * i)) ≡ true
places_high = refl

halves_pass : all_below 256 (λ v. eqb (bit_xor (v % 16) (16 * (v / 16))) v) ≡ true
halves_pass = refl

halves : (l h : ℕ) → l < 16 → h < 16 → bit_xor l (16 * h) ≡ l + 16 * h
halves l h a b =
    let low : (l + 16 * h) % 16 ≡ l = omega arith in
    let high : (l + 16 * h) / 16 ≡ h = omega arith in
    sym (λ t. bit_xor (low t) (16 * high t)) ∙ same_below 256 (λ v. bit_xor (v % 16) (16 * (v / 16)))
    (λ v. v) halves_pass (l + 16 * h) (omega arith)

-- ---- the lanes

pub places_fit : (js : List ℕ) → length js ≡ 16 → ((i : ℕ) → i < 16 → get_or js i 0 < 16) → SwzOk w8 16 16 0 js
places_fit js long small =
    SwzOk-from_below w8 16 1 16 0 js refl (omega (arith, long))
    (Each1-from_get_or (λ j. j < 16) js 0 (λ i lt. small i (omega (arith, long))))

taken : (xs js : List ℕ) (i : ℕ) → length js ≡ 16 → i < 16 → get_or js i 0 < 16
    → get_or (swz_l w8 16 xs 0 js) i 0 ≡ get_or xs (get_or js i 0) 0
taken xs js i long lt small =
    let at : 16 * ((0 + i) / 16) + get_or js i 0 ≡ get_or js i 0 = omega arith in
    get_or-swz_l_below w8 16 xs 0 js i (omega (arith, long)) small ∙ ap (λ (k : ℕ). get_or xs k 0) at

pub length-product : (low high js ks : List ℕ) → length js ≡ 16 → length ks ≡ 16
    → length (zip2 bit_xor (swz_l w8 16 low 0 js) (swz_l w8 16 high 0 ks)) ≡ 16
length-product low high js ks lj lk =
    length-zip2 bit_xor (swz_l w8 16 low 0 js) (swz_l w8 16 high 0 ks)
    (omega (arith, length-swz_l w8 16 low 0 js, length-swz_l w8 16 high 0 ks))
    ∙ length-swz_l w8 16 low 0 js ∙ lj

pub product_at : (f : ℕ) (low high js ks : List ℕ) → length js ≡ 16 → length ks ≡ 16
    → ((i : ℕ) → i < 16 → get_or js i 0 < 16) → ((i : ℕ) → i < 16 → get_or ks i 0 < 16)
    → low ≡ multiple f LOW_PLACES → high ≡ multiple f HIGH_PLACES → (i : ℕ) → i < 16
    → get_or (zip2 bit_xor (swz_l w8 16 low 0 js) (swz_l w8 16 high 0 ks)) i 0
    ≡ times f (get_or js i 0 + 16 * get_or ks i 0)
product_at f low high js ks lj lk sj sk lowis highis i lt =
    let j = get_or js i 0 in
    let k = get_or ks i 0 in
    get_or-zip2 bit_xor (swz_l w8 16 low 0 js) (swz_l w8 16 high 0 ks) i 0 0 0
    (omega (arith, length-swz_l w8 16 low 0 js)) (omega (arith, length-swz_l w8 16 high 0 ks))
    ∙ ap (λ (x : ℕ). bit_xor x (get_or (swz_l w8 16 high 0 ks) i 0))
    (taken low js i lj lt (sj i lt) ∙ ap (λ (l : List ℕ). get_or l j 0) lowis ∙ get_or-multiple f LOW_PLACES j (sj i lt)
    ∙ ap (times f) (same_below 16 (λ i. get_or LOW_PLACES i 0) (λ i. i) places_low j (sj i lt)))
    ∙ ap (bit_xor (times f j))
    (taken high ks i lk lt (sk i lt) ∙ ap (λ (l : List ℕ). get_or l k 0) highis
    ∙ get_or-multiple f HIGH_PLACES k (sk i lt)
    ∙ ap (times f) (same_below 16 (λ i. get_or HIGH_PLACES i 0) (λ i. 16 * i) places_high k (sk i lt)))
    ∙ sym (times-plus f j (16 * k))
    ∙ ap (times f) (halves j k (sj i lt) (sk i lt))
