-- The rows of a table of multiples.
use Rattle.std.proofs.Common.{◌≡◌, ◌<◌, ◌+◌, ◌∙◌, ℕ, suc, zero, List, [], ◌∷◌, get_or, length, refl, ap, eqb, true, false, Bool, ◌&&◌, arith}
use Rattle.std.proofs.lemmas.Bool.{eqb-true}
use Rattle.tm_gf256.specs.Field.{times}
use Rattle.tm_rs_code.specs.Register.{multiple}

-- xs are the products of f and the entries of g
unfoldable pub are_products : ℕ → List ℕ → List ℕ → Bool
are_products f [] [] = true
are_products f [] (c ∷ cs) = false
are_products f (x ∷ xs) [] = false
are_products f (x ∷ xs) (c ∷ cs) = eqb x (times f c) && are_products f xs cs

-- each row, from row f on, is that multiple of g
unfoldable pub are_rows : ℕ → List ℕ → List (List ℕ) → Bool
are_rows f g [] = true
are_rows f g (r ∷ rs) = are_products f r g && are_rows (suc f) g rs

and_parts : (a b : Bool) → (a && b) ≡ true → (a ≡ true) × (b ≡ true)
and_parts true b e = (refl, e)
and_parts false b e = absurd cc

products_are : (f : ℕ) (xs g : List ℕ) → are_products f xs g ≡ true → xs ≡ multiple f g
unfolding are_products
products_are f [] [] e = refl
products_are f [] (c ∷ cs) e = absurd cc
products_are f (x ∷ xs) [] e = absurd cc
products_are f (x ∷ xs) (c ∷ cs) e =
    let both = and_parts (eqb x (times f c)) (are_products f xs cs) e in
    ap (λ (v : ℕ). v ∷ xs) (eqb-true x (times f c) both.0) ∙ ap (λ (vs : List ℕ). times f c ∷ vs)
    (products_are f xs cs both.1)

pub row_at : (f : ℕ) (g : List ℕ) (rs : List (List ℕ)) (i : ℕ) → are_rows f g rs ≡ true → i < length rs
    → get_or rs i [] ≡ multiple (f + i) g
unfolding are_rows
row_at f g [] i e lt = absurd (omega arith)
row_at f g (r ∷ rs) zero e lt =
    let same : f ≡ f + 0 = omega arith in
    products_are f r g (and_parts (are_products f r g) (are_rows (suc f) g rs) e).0 ∙ ap (λ (v : ℕ). multiple v g) same
row_at f g (r ∷ rs) (suc i) e lt =
    let same : suc f + i ≡ f + suc i = omega arith in
    row_at (suc f) g rs i (and_parts (are_products f r g) (are_rows (suc f) g rs) e).1 (omega arith)
    ∙ ap (λ (v : ℕ). multiple v g) same
