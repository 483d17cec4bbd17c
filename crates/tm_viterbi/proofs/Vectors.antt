-- The lesser of two vectors of lanes, and tables of positions.
use Rattle.std.proofs.Common.{◌≡◌, ℕ, ◌+◌, ◌-◌, ◌/◌, ◌%◌, ◌^◌, ◌<◌, ◌∙◌, min, ap, subst, cond, ltb, eqb, arith, length, get_or, List, [], ◌∷◌, zero, suc, Bool, true, false, ◌&&◌, w32, map}
use lib.Lanes.{zip2, sel_l, mask_l, top, Each2}
use Rattle.std.proofs.lemmas.Bool.Decides.{nat_tests}
use Rattle.std.proofs.lemmas.Bool.{eqb-true, and_parts}
use Rattle.std.proofs.lemmas.List.{get_or-map}
use Rattle.std.proofs.lemmas.Simd.{tops_compared, length-zip2, length-sel_l, get_or-sel_l, get_or-zip2, mask_l-lt, mask_l-mod, bit_mask_l}
use Rattle.tm_viterbi.specs.AddCompareSelect.{IsEach}

pub Each2-from_get_or : (P : ℕ → ℕ → Type 0) (xs ys : List ℕ) → length xs ≡ length ys
    → ((i : ℕ) → i < length xs → P (get_or xs i 0) (get_or ys i 0)) → Each2 P xs ys
Each2-from_get_or P [] ys l h = tt
Each2-from_get_or P (x ∷ xs) [] l h = tt
Each2-from_get_or P (x ∷ xs) (y ∷ ys) l h = (
  h 0 (let k : 0 < suc (length xs) = omega arith in k),
  Each2-from_get_or P xs ys (let k : suc (length xs) ≡ suc (length ys) = l in omega arith)
      (λ i lt. h (suc i) (let k : suc i < suc (length xs) = omega arith in k)),
)

abbrev pub below_mask : List ℕ → List ℕ → List Bool
below_mask xs ys = map (top 31) (zip2 (λ a b. cond (ltb a b) (2 ^ 32 - 1) 0) xs ys)

mask_is : (xs ys : List ℕ) → below_mask xs ys ≡ zip2 ltb xs ys
mask_is xs ys = tops_compared w32 ltb xs ys

min_by_test : (x y : ℕ) → cond (ltb y x) y x ≡ min x y
min_by_test x y = grind (arith, nat_tests)

pub lesser_sums : (xs ys : List ℕ) → length xs ≡ 32 → length ys ≡ 32
    → IsEach (sel_l (below_mask ys xs) ys xs) (λ i. min (get_or xs i 0) (get_or ys i 0))
lesser_sums xs ys lx ly =
    let is = ap (λ ms. sel_l ms ys xs) (mask_is ys xs) in
    let long = length-zip2 ltb ys xs (omega arith) in
    record {
      long = ap length is ∙ omega (arith, length-sel_l (zip2 ltb ys xs) ys xs (omega arith) (omega arith));
      each =
          λ i lt. ap (λ l. get_or l i 0) is
          ∙ get_or-sel_l (zip2 ltb ys xs) ys xs i 0 (omega arith) (omega arith) (omega arith)
          ∙ ap (λ t. cond t (get_or ys i 0) (get_or xs i 0))
          (get_or-zip2 ltb ys xs i 0 0 false (omega arith) (omega arith))
          ∙ min_by_test (get_or xs i 0) (get_or ys i 0);
    }

mask_bits : (xs ys : List ℕ) → length xs ≡ 32 → length ys ≡ 32
    → mask_l (below_mask ys xs) % 2 ^ 64 ≡ mask_l (zip2 ltb ys xs)
mask_bits xs ys lx ly =
    let long = length-zip2 ltb ys xs (omega arith) in
    ap (λ ms. mask_l ms % 2 ^ 64) (mask_is ys xs) ∙ mask_l-mod (zip2 ltb ys xs) 64 (omega arith)

pub lesser_bits : (xs ys : List ℕ) → length xs ≡ 32 → length ys ≡ 32 → (i : ℕ) → i < 32
    → mask_l (below_mask ys xs) % 2 ^ 64 / 2 ^ i % 2 ≡ cond (ltb (get_or ys i 0) (get_or xs i 0)) 1 0
lesser_bits xs ys lx ly i lt =
    ap (λ v. v / 2 ^ i % 2) (mask_bits xs ys lx ly) ∙ bit_mask_l (zip2 ltb ys xs) i
    ∙ ap (λ t. cond t 1 0) (get_or-zip2 ltb ys xs i 0 0 false (omega arith) (omega arith))

pub lesser_small : (xs ys : List ℕ) → length xs ≡ 32 → length ys ≡ 32 → mask_l (below_mask ys xs) % 2 ^ 64 < 2 ^ 32
lesser_small xs ys lx ly =
    let long = length-zip2 ltb ys xs (omega arith) in
    let l : length (zip2 ltb ys xs) ≡ 32 = omega arith in
    let P : ℕ → Type 0 = λ v. mask_l (zip2 ltb ys xs) < 2 ^ v in
    let h : mask_l (zip2 ltb ys xs) < 2 ^ 32 = subst P l (mask_l-lt (zip2 ltb ys xs)) in
    omega (arith, h, mask_bits xs ys lx ly)

-- ---- a table is what a rule says, by a test of each entry

unfoldable pub follows : (ℕ → ℕ) → ℕ → List ℕ → Bool
follows f start [] = true
follows f start (x ∷ xs) = eqb x (f start) && follows f (start + 1) xs

pub follows_at : (f : ℕ → ℕ) (start : ℕ) (xs : List ℕ) (i : ℕ) → follows f start xs ≡ true → i < length xs
    → get_or xs i 0 ≡ f (start + i)
unfolding follows
follows_at f start [] i e lt = absurd (let h : i < 0 = lt in omega arith)
follows_at f start (x ∷ xs) zero e lt =
    let same : start ≡ start + 0 = omega arith in
    eqb-true x (f start) (and_parts _ _ e).0 ∙ ap f same
follows_at f start (x ∷ xs) (suc i) e lt =
    let same : start + 1 + i ≡ start + suc i = omega arith in
    follows_at f (start + 1) xs i (and_parts _ _ e).1 (let h : suc i < suc (length xs) = lt in omega arith) ∙ ap f same

-- what a table of such places takes from xs
pub get_or-from_table : (xs places : List ℕ) (f : ℕ → ℕ) → follows f 0 places ≡ true → (i : ℕ) → i < length places
    → get_or (map (λ k. get_or xs k 0) places) i 0 ≡ get_or xs (f i) 0
get_or-from_table xs places f e i lt =
    let same : 0 + i ≡ i = omega arith in
    get_or-map (λ k. get_or xs k 0) places i 0 0 lt ∙ ap (λ k. get_or xs k 0) (follows_at f 0 places i e lt ∙ ap f same)
