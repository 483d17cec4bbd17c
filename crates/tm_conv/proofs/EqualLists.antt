-- Lists of numbers compared by a test, by which the entries of tables are tested.
use Rattle.std.proofs.Common.{◌≡◌, ◌∙◌, ℕ, List, [], ◌∷◌, Bool, true, false, ◌&&◌, eqb, ap, refl}
use Rattle.std.proofs.lemmas.Bool.{eqb-true, and_parts}

unfoldable pub same : List ℕ → List ℕ → Bool
same [] [] = true
same [] (y ∷ ys) = false
same (x ∷ xs) [] = false
same (x ∷ xs) (y ∷ ys) = eqb x y && same xs ys

pub same_is : (xs ys : List ℕ) → same xs ys ≡ true → xs ≡ ys
unfolding same
same_is [] [] e = refl
same_is [] (y ∷ ys) e = absurd cc
same_is (x ∷ xs) [] e = absurd cc
same_is (x ∷ xs) (y ∷ ys) e =
    let both = and_parts (eqb x y) (same xs ys) e in
    ap (λ (v : ℕ). v ∷ xs) (eqb-true x y both.0) ∙ ap (λ (vs : List ℕ). y ∷ vs) (same_is xs ys both.1)
