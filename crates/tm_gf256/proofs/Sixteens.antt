-- Words converted sixteen at a time.
use Rattle.std.proofs.Common.{◌≡◌, ◌≤◌, ◌+◌, ◌∙◌, ◌++◌, ℕ, List, suc, zero, [], ◌∷◌, take, drop, map, refl, sym, ap, take_all, length}
use Rattle.std.proofs.Math.Seq.{take-add}
use Rattle.std.proofs.lemmas.List.{map-append, take-take, take-map}
use Rattle.tm_gf256.specs.declared.element.Gf.{Gf}
use Rattle.tm_gf256.specs.Poly.{numbers}

pub numbers-take : (n : ℕ) (xs : List Gf) → numbers (take n xs) ≡ take n (numbers xs)
numbers-take zero xs = refl
numbers-take (suc n) [] = refl
numbers-take (suc n) (x ∷ xs) = ap (λ (l : List ℕ). x.0 ∷ l) (numbers-take n xs)

pub numbers-drop : (n : ℕ) (xs : List Gf) → numbers (drop n xs) ≡ drop n (numbers xs)
numbers-drop zero xs = refl
numbers-drop (suc n) [] = refl
numbers-drop (suc n) (x ∷ xs) = numbers-drop n xs

-- the symbols before a place, and n from it on
pub mapped_more : (f : ℕ → ℕ) (xs prefix ys : List ℕ) (at n : ℕ) → prefix ≡ map f (take at xs)
    → ys ≡ map f (take n (drop at xs)) → prefix ++ ys ≡ map f (take (at + n) xs)
mapped_more f xs prefix ys at n a b =
    (λ t. a t ++ b t) ∙ sym (map-append f (take at xs) (take n (drop at xs))) ∙ ap (map f) (sym (take-add at n xs))

-- fewer of them
pub mapped_fewer : (f : ℕ → ℕ) (xs ys : List ℕ) (k n : ℕ) → k ≤ n → take n ys ≡ map f (take n xs)
    → take k ys ≡ map f (take k xs)
mapped_fewer f xs ys k n le h =
    sym (take-take k n ys le) ∙ ap (take k) h ∙ take-map f k (take n xs) ∙ ap (map f) (take-take k n xs le)

-- all of them
pub mapped_all : (f : ℕ → ℕ) (xs ys : List ℕ) (n : ℕ) → length xs ≤ n → length ys ≤ n → take n ys ≡ map f (take n xs)
    → ys ≡ map f xs
mapped_all f xs ys n lx ly h = sym (take_all n ys ly) ∙ h ∙ ap (map f) (take_all n xs lx)
