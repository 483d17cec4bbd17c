-- The positions that the lanes are taken from.
use Rattle.std.proofs.Common.{◌≡◌, ℕ, ◌+◌, ◌*◌, ◌∙◌, ap, arith, length, get_or, List, [], ◌∷◌, ◌++◌, refl, map, true, take, drop}
use Rattle.std.proofs.lemmas.List.{length-map, take-take, take_all, take-append-drop, length-drop}
use Rattle.tm_conv.specs.Path.{c1, c2}
use Rattle.tm_viterbi.specs.AddCompareSelect.{IsEach}
use Rattle.tm_viterbi.proofs.Vectors.{follows, get_or-from_table}

-- lanes taken from xs by a table of places
pub IsEach-from_table : (xs places : List ℕ) (f : ℕ → ℕ) → length places ≡ 32 → follows f 0 places ≡ true
    → IsEach (map (λ k. get_or xs k 0) places) (λ i. get_or xs (f i) 0)
IsEach-from_table xs places f long e = record {
  long = length-map places (λ k. get_or xs k 0) ∙ long;
  each = λ i lt. get_or-from_table xs places f e i (omega arith);
}

abbrev near_places : List ℕ
near_places =
    0 ∷ 1 ∷ 0 ∷ 1 ∷ 3 ∷ 2 ∷ 3 ∷ 2 ∷ 3 ∷ 2 ∷ 3 ∷ 2 ∷ 0 ∷ 1 ∷ 0 ∷ 1 ∷ 2 ∷ 3 ∷ 2 ∷ 3 ∷ 1 ∷ 0 ∷ 1 ∷ 0 ∷ 1 ∷ 0 ∷ 1 ∷ 0 ∷ 2
    ∷ 3 ∷ 2 ∷ 3 ∷ []

abbrev far_places : List ℕ
far_places =
    3 ∷ 2 ∷ 3 ∷ 2 ∷ 0 ∷ 1 ∷ 0 ∷ 1 ∷ 0 ∷ 1 ∷ 0 ∷ 1 ∷ 3 ∷ 2 ∷ 3 ∷ 2 ∷ 1 ∷ 0 ∷ 1 ∷ 0 ∷ 2 ∷ 3 ∷ 2 ∷ 3 ∷ 2 ∷ 3 ∷ 2 ∷ 3 ∷ 1
    ∷ 0 ∷ 1 ∷ 0 ∷ []

abbrev evens : List ℕ
evens =
    0 ∷ 2 ∷ 4 ∷ 6 ∷ 8 ∷ 10 ∷ 12 ∷ 14 ∷ 16 ∷ 18 ∷ 20 ∷ 22 ∷ 24 ∷ 26 ∷ 28 ∷ 30 ∷ 32 ∷ 34 ∷ 36 ∷ 38 ∷ 40 ∷ 42 ∷ 44 ∷ 46
    ∷ 48 ∷ 50 ∷ 52 ∷ 54 ∷ 56 ∷ 58 ∷ 60 ∷ 62 ∷ []

abbrev odds : List ℕ
odds =
    1 ∷ 3 ∷ 5 ∷ 7 ∷ 9 ∷ 11 ∷ 13 ∷ 15 ∷ 17 ∷ 19 ∷ 21 ∷ 23 ∷ 25 ∷ 27 ∷ 29 ∷ 31 ∷ 33 ∷ 35 ∷ 37 ∷ 39 ∷ 41 ∷ 43 ∷ 45 ∷ 47
    ∷ 49 ∷ 51 ∷ 53 ∷ 55 ∷ 57 ∷ 59 ∷ 61 ∷ 63 ∷ []

pub near_lanes : (xs : List ℕ) → IsEach (map (λ k. get_or xs k 0) near_places)
    (λ i. get_or xs (2 * c1 (2 * i) 0 + c2 (2 * i) 0) 0)
unfolding follows
near_lanes xs = IsEach-from_table xs near_places (λ i. 2 * c1 (2 * i) 0 + c2 (2 * i) 0) refl refl

pub far_lanes : (xs : List ℕ) → IsEach (map (λ k. get_or xs k 0) far_places)
    (λ i. get_or xs (2 * c1 (2 * i + 1) 0 + c2 (2 * i + 1) 0) 0)
unfolding follows
far_lanes xs = IsEach-from_table xs far_places (λ i. 2 * c1 (2 * i + 1) 0 + c2 (2 * i + 1) 0) refl refl

pub even_lanes : (xs : List ℕ) → IsEach (map (λ k. get_or xs k 0) evens) (λ i. get_or xs (2 * i) 0)
unfolding follows
even_lanes xs = IsEach-from_table xs evens (λ i. 2 * i) refl refl

pub odd_lanes : (xs : List ℕ) → IsEach (map (λ k. get_or xs k 0) odds) (λ i. get_or xs (2 * i + 1) 0)
unfolding follows
odd_lanes xs = IsEach-from_table xs odds (λ i. 2 * i + 1) refl refl

-- two halves, each loaded whole, are the list
pub loaded_halves : (xs : List ℕ) → length xs ≡ 64 → take 32 (take 32 xs) ++ take 32 (take 32 (drop 32 xs)) ≡ xs
loaded_halves xs l =
    let a : take 32 (take 32 xs) ≡ take 32 xs = take-take 32 32 xs (omega arith) in
    let b : take 32 (take 32 (drop 32 xs)) ≡ drop 32 xs = take-take 32 32 (drop 32 xs) (omega arith)
    ∙ take_all 32 (drop 32 xs) (omega (arith, length-drop 32 xs)) in
    ap (λ v. v ++ take 32 (take 32 (drop 32 xs))) a ∙ ap (λ v. take 32 xs ++ v) b ∙ take-append-drop 32 xs
