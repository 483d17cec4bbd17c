-- Octets that are converted one after another.
use Rattle.std.proofs.Common.{◌≡◌, ℕ, zero, suc, ◌+◌, ◌<◌, slice_set, slice_index_or, List, [], ◌∷◌, ◌++◌, length, take, drop, map, refl, ap, ◌∙◌, arith}

converted-next : (f : ℕ → ℕ) (k : ℕ) (xs : List ℕ) → k < length xs
    → slice_set (map f (take k xs) ++ drop k xs) k (f (slice_index_or (map f (take k xs) ++ drop k xs) k 0))
    ≡ map f (take (suc k) xs) ++ drop (suc k) xs
converted-next f k [] less = absurd (omega arith)
converted-next f zero (x ∷ xs) less = refl
converted-next f (suc k) (x ∷ xs) less = ap (λ l. f x ∷ l) (converted-next f k xs (omega arith))

pub converted-more : (f : ℕ → ℕ) (k : ℕ) (xs ys : List ℕ) → k < length xs → ys ≡ map f (take k xs) ++ drop k xs
    → slice_set ys k (f (slice_index_or ys k 0)) ≡ map f (take (k + 1) xs) ++ drop (k + 1) xs
converted-more f k xs ys less is =
    let next : suc k ≡ k + 1 = omega arith in
    ap (λ l. slice_set l k (f (slice_index_or l k 0))) is ∙ converted-next f k xs less
    ∙ ap (λ n. map f (take n xs) ++ drop n xs) next
