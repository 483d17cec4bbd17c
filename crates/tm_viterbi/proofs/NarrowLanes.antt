-- The lesser of two vectors of lanes of sixteen bits.
use Rattle.std.proofs.Common.{◌≡◌, ℕ, ◌+◌, ◌-◌, ◌*◌, ◌/◌, ◌%◌, ◌^◌, ◌<◌, ◌∙◌, min, sym, refl, ap, cond, ltb, eqb, not, arith, length, get_or, List, [], ◌∷◌, Bool, true, false, w16, map, pow-suc}
use Rattle.std.proofs.lemmas.List.{get_or-map}
use lib.Lanes.{zip2, sel_l, mask_l, top}
use Rattle.std.proofs.lemmas.Bool.Decides.{nat_tests}
use Rattle.std.proofs.lemmas.Simd.{tops_compared, length-zip2, get_or-zip2, length-sel_l, get_or-sel_l, mask_l-mod, bit_mask_l}
use Rattle.tm_viterbi.specs.AddCompareSelect.{IsHalf}

abbrev pub below_mask : List ℕ → List ℕ → List Bool
below_mask xs ys = map (top 15) (zip2 (λ a b. cond (ltb a b) (2 ^ 16 - 1) 0) xs ys)

abbrev pub least_of : List ℕ → List ℕ → List ℕ
least_of xs ys = sel_l (below_mask xs ys) xs ys

abbrev pub same_mask : List ℕ → List ℕ → List Bool
same_mask xs ys = map (top 15) (zip2 (λ a b. cond (eqb a b) (2 ^ 16 - 1) 0) xs ys)

min_by_test : (x y : ℕ) → cond (ltb x y) x y ≡ min x y
min_by_test x y = grind (arith, nat_tests)

pub least_sums : (xs ys : List ℕ) → length xs ≡ 16 → length ys ≡ 16
    → IsHalf (least_of xs ys) (λ i. min (get_or xs i 0) (get_or ys i 0))
least_sums xs ys lx ly =
    let is = ap (λ ms. sel_l ms xs ys) (tops_compared w16 ltb xs ys) in
    let long = length-zip2 ltb xs ys (omega arith) in
    record {
      long = ap length is ∙ omega (arith, length-sel_l (zip2 ltb xs ys) xs ys (omega arith) (omega arith));
      each = λ i lt. ap (λ l. get_or l i 0) is
          ∙ get_or-sel_l (zip2 ltb xs ys) xs ys i 0 (omega arith) (omega arith) (omega arith)
          ∙ ap (λ t. cond t (get_or xs i 0) (get_or ys i 0))
          (get_or-zip2 ltb xs ys i 0 0 false (omega arith) (omega arith))
          ∙ min_by_test (get_or xs i 0) (get_or ys i 0);
    }

pub length-least : (xs ys : List ℕ) → length xs ≡ 16 → length ys ≡ 16 → length (least_of xs ys) ≡ 16
length-least xs ys lx ly = (least_sums xs ys lx ly).long

same_by_less : (x y : ℕ) → ◌≡◌ {A = ℕ} (cond (not (eqb (min x y) x)) 1 0) (cond (ltb y x) 1 0)
same_by_less x y = grind (arith, nat_tests)

mask_bits : (xs ys : List ℕ) → length xs ≡ 16 → length ys ≡ 16
    → mask_l (same_mask xs ys) % 2 ^ 64 ≡ mask_l (zip2 eqb xs ys)
mask_bits xs ys lx ly =
    let long = length-zip2 eqb xs ys (omega arith) in
    ap (λ ms. mask_l ms % 2 ^ 64) (tops_compared w16 eqb xs ys) ∙ mask_l-mod (zip2 eqb xs ys) 64 (omega arith)

-- the bits that are not set
unset_head : (b : Bool) (m n p : ℕ) → m + n + 1 ≡ p → cond (not b) 1 0 + 2 * m + (cond b 1 0 + 2 * n) + 1 ≡ p * 2
unset_head true m n p e = omega arith
unset_head false m n p e = omega arith

unset : (ms : List Bool) → mask_l (map not ms) + mask_l ms + 1 ≡ 2 ^ length ms
unset [] = refl
unset (b ∷ ms) = unset_head b (mask_l (map not ms)) (mask_l ms) (2 ^ length ms) (unset ms) ∙ sym (pow-suc 2 (length ms))

-- a bit of the number of those that are not set
unset_bit : (ms : List Bool) (i : ℕ) → i < length ms → mask_l (map not ms) / 2 ^ i % 2
    ≡ cond (not (get_or ms i false)) 1 0
unset_bit ms i lt = bit_mask_l (map not ms) i ∙ ap (λ t. cond t 1 0) (get_or-map not ms i false false lt)

same_bit : (least x y : ℕ) → least ≡ min x y → ◌≡◌ {A = ℕ} (cond (not (eqb least x)) 1 0) (cond (ltb y x) 1 0)
same_bit least x y is = ap (λ v. cond (not (eqb v x)) 1 0) is ∙ same_by_less x y

bit_of_unset : (ms : List Bool) (v i least x y : ℕ) → v ≡ mask_l (map not ms) → i < length ms
    → get_or ms i false ≡ eqb least x
    → least ≡ min x y → v / 2 ^ i % 2 ≡ cond (ltb y x) 1 0
bit_of_unset ms v i least x y is lt at each =
    ap (λ n. n / 2 ^ i % 2) is ∙ unset_bit ms i lt ∙ ap (λ t. cond (not t) 1 0) at ∙ same_bit least x y each

lesser_bit : (least xs ys : List ℕ) → length least ≡ 16 → length xs ≡ 16 → (i : ℕ) → i < 16
    → get_or least i 0 ≡ min (get_or xs i 0) (get_or ys i 0)
    → (65535 - mask_l (same_mask least xs) % 2 ^ 64) / 2 ^ i % 2 ≡ cond (ltb (get_or ys i 0) (get_or xs i 0)) 1 0
lesser_bit least xs ys ll lx i lt each =
    let ms = zip2 eqb least xs in
    let long : length ms ≡ 16 = length-zip2 eqb least xs (omega arith) ∙ ll in
    let whole : mask_l (map not ms) + mask_l ms + 1 ≡ 2 ^ 16 = unset ms ∙ ap (λ n. 2 ^ n) long in
    let is : 65535 - mask_l (same_mask least xs) % 2 ^ 64 ≡ mask_l (map not ms) =
    omega (arith, mask_bits least xs ll lx, whole) in
    bit_of_unset ms (65535 - mask_l (same_mask least xs) % 2 ^ 64) i (get_or least i 0) (get_or xs i 0)
    (get_or ys i 0) is
    (omega (arith, long)) (get_or-zip2 eqb least xs i 0 0 false (omega arith) (omega arith)) each

pub lesser_bits : (xs ys : List ℕ) → length xs ≡ 16 → length ys ≡ 16 → (i : ℕ) → i < 16
    → (65535 - mask_l (same_mask (least_of xs ys) xs) % 2 ^ 64) / 2 ^ i % 2 ≡ cond
    (ltb (get_or ys i 0) (get_or xs i 0)) 1 0
lesser_bits xs ys lx ly i lt =
    lesser_bit (least_of xs ys) xs ys (length-least xs ys lx ly) lx i lt ((least_sums xs ys lx ly).each i lt)

pub lesser_small : (xs ys : List ℕ) → length xs ≡ 16 → length ys ≡ 16
    → mask_l (same_mask (least_of xs ys) xs) % 2 ^ 64 < 65536
lesser_small xs ys lx ly =
    let ll = length-least xs ys lx ly in
    let ms = zip2 eqb (least_of xs ys) xs in
    let long : length ms ≡ 16 = length-zip2 eqb (least_of xs ys) xs (omega arith) ∙ ll in
    let whole : mask_l (map not ms) + mask_l ms + 1 ≡ 2 ^ 16 = unset ms ∙ ap (λ n. 2 ^ n) long in
    omega (arith, mask_bits (least_of xs ys) xs ll lx, whole)
