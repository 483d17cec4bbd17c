-- Words converted one element at a time.
use Rattle.std.proofs.Common.{◌≡◌, ◌<◌, ◌≤◌, ◌+◌, ℕ, List, [], ◌∷◌, ◌++◌, length, get_or, map, take, set, refl, ap, sym, ◌∙◌, take_all}
use Rattle.std.proofs.lemmas.List.{take_more, take_more_set, map-append}
use Rattle.tm_gf256.specs.Poly.{numbers, entry}
use Rattle.tm_gf256.specs.declared.element.Gf.{Gf}
use Rattle.tm_gf256.proofs.PolyLemmas.{numbers-take_more, numbers-take_more_set}

-- one octet more of a word of elements
pub octets_more : (f : ℕ → ℕ) (xs : List Gf) (ys : List ℕ) (i y : ℕ) → i < length xs → i < length ys
    → y ≡ f (entry xs i)
    → take i ys ≡ map f (numbers (take i xs)) → take (i + 1) (set ys i y) ≡ map f (numbers (take (i + 1) xs))
octets_more f xs ys i y lx ly is done =
    take_more_set ys i y ly ∙ ap (λ (l : List ℕ). l ++ y ∷ []) done
    ∙ ap (λ (n : ℕ). map f (numbers (take i xs)) ++ n ∷ []) is
    ∙ sym (ap (map f) (numbers-take_more xs i lx) ∙ map-append f (numbers (take i xs)) (entry xs i ∷ []))

-- one element more of a word of octets
pub elements_more : (f : ℕ → ℕ) (xs : List ℕ) (ys : List Gf) (i : ℕ) (y : Gf) → i < length xs → i < length ys
    → y.0 ≡ f (get_or xs i 0)
    → numbers (take i ys) ≡ map f (take i xs) → numbers (take (i + 1) (set ys i y)) ≡ map f (take (i + 1) xs)
elements_more f xs ys i y lx ly is done =
    numbers-take_more_set ys i y ly ∙ ap (λ (l : List ℕ). l ++ y.0 ∷ []) done
    ∙ ap (λ (n : ℕ). map f (take i xs) ++ n ∷ []) is
    ∙ sym (ap (map f) (take_more xs i 0 lx) ∙ map-append f (take i xs) (get_or xs i 0 ∷ []))

pub map-id : (xs : List ℕ) → map (λ x. x) xs ≡ xs
map-id [] = refl
map-id (x ∷ xs) = ap (λ (l : List ℕ). x ∷ l) (map-id xs)

-- the whole words, at the end
pub all_octets : (f : ℕ → ℕ) (xs : List Gf) (ys : List ℕ) (i : ℕ) → length xs ≤ i → length ys ≤ i
    → take i ys ≡ map f (numbers (take i xs)) → ys ≡ map f (numbers xs)
all_octets f xs ys i lx ly done =
    sym (take_all i ys ly) ∙ done ∙ ap (λ (l : List Gf). map f (numbers l)) (take_all i xs lx)

pub all_elements : (f : ℕ → ℕ) (xs : List ℕ) (ys : List Gf) (i : ℕ) → length xs ≤ i → length ys ≤ i
    → numbers (take i ys) ≡ map f (take i xs) → numbers ys ≡ map f xs
all_elements f xs ys i lx ly done =
    sym (ap numbers (take_all i ys ly)) ∙ done ∙ ap (map f) (take_all i xs lx)
