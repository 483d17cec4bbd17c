-- The vector registers that the rows of a table of multiples step.
use Rattle.std.proofs.Common.{◌≡◌, ◌<◌, ◌++◌, ◌∙◌, ℕ, List, [], ◌∷◌, get_or, length, take, append_assoc, length-append, refl, sym, ap, arith}
use Rattle.std.specs.Prelude.{bit_xor}
use Rattle.std.specs.List.{range_with_len}
use Rattle.std.proofs.lemmas.List.{take_at}
use Rattle.std.proofs.lemmas.Simd.{pick_l-range_with_len}
use lib.Lanes.{zip2, pick_l}
use Rattle.tm_rs_code.specs.Register.{sums, shift, multiple}

zip2_sums : (xs ys : List ℕ) → zip2 bit_xor xs ys ≡ sums xs ys
zip2_sums [] ys = refl
zip2_sums (x ∷ xs) [] = refl
zip2_sums (x ∷ xs) (y ∷ ys) = ap (λ (vs : List ℕ). bit_xor x y ∷ vs) (zip2_sums xs ys)

-- each lane from the one above, and the first of the zeros into the last
taken_up : (width r : ℕ) (rs zeros : List ℕ) → length (r ∷ rs) ≡ width
    → pick_l 0 ((r ∷ rs) ++ (0 ∷ zeros)) (range_with_len 1 width) ≡ rs ++ 0 ∷ []
taken_up width r rs zeros size =
    pick_l-range_with_len 0 ((r ∷ rs) ++ (0 ∷ zeros)) 1 width (omega (arith, length-append rs (0 ∷ zeros)))
    ∙ ap (λ (vs : List ℕ). take width vs) (sym (append_assoc rs (0 ∷ []) zeros))
    ∙ take_at (rs ++ 0 ∷ []) zeros width (omega (arith, length-append rs (0 ∷ [])))

-- a step of the vector register is a step of the shift register
pub stepped : (width : ℕ) (g : List ℕ) (d : ℕ) (xs row zeros : List ℕ) → 0 < width → length xs ≡ width
    → row ≡ multiple (bit_xor d (get_or xs 0 0)) g
    → zip2 bit_xor (pick_l 0 (xs ++ 0 ∷ zeros) (range_with_len 1 width)) row ≡ shift g d xs
stepped width g d [] row zeros some size is = absurd (omega arith)
stepped width g d (r ∷ rs) row zeros some size is =
    ap (λ (vs : List ℕ). zip2 bit_xor vs row) (taken_up width r rs zeros size)
    ∙ zip2_sums (rs ++ 0 ∷ []) row
    ∙ ap (sums (rs ++ 0 ∷ [])) is
