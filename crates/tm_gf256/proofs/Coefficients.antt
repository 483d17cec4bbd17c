-- Coefficients of products and of derivatives, one at a time.
use Rattle.std.proofs.Common.{◌≡◌, ◌<◌, ◌≤◌, ℕ, zero, suc, ◌+◌, ◌-◌, ◌%◌, List, [], ◌∷◌, ◌++◌, length, get_or, take, refl, ap, sym, ◌∙◌, arith, add-suc}
use Rattle.std.specs.Prelude.{bit_xor}
use Rattle.std.specs.Int.Bits.{xor_zero_r, xor_assoc, xor_self}
use Rattle.std.proofs.lemmas.List.{take_more, get_or_past}
use Rattle.tm_gf256.specs.Field.{times}
use Rattle.tm_gf256.specs.Poly.{convolution, copies, derivative}
use Rattle.tm_gf256.proofs.Ring.{zero-times}

-- ---- products

-- terms past the end of the first factor are 0
convolution-past : (a b : List ℕ) (m n : ℕ) → convolution a b m (length a + n) ≡ convolution a b m (length a)
unfolding convolution
convolution-past a b m zero = let e : length a + 0 ≡ length a = omega arith in ap (convolution a b m) e
convolution-past a b m (suc n) =
    ap (convolution a b m) (add-suc (length a) n)
    ∙ ap (λ (y : ℕ). bit_xor (convolution a b m (length a + n)) (times y (get_or b (m - (length a + n)) 0)))
    (get_or_past a (length a + n) 0 (omega arith))
    ∙ ap (bit_xor (convolution a b m (length a + n))) (zero-times (get_or b (m - (length a + n)) 0))
    ∙ xor_zero_r (convolution a b m (length a + n)) ∙ convolution-past a b m n

pub convolution_from : (a b : List ℕ) (m k n : ℕ) → length a ≡ n → n ≤ k → convolution a b m k ≡ convolution a b m n
convolution_from a b m k n e h =
    let s : k ≡ length a + (k - length a) = omega arith in
    ap (convolution a b m) s
    ∙ convolution-past a b m (k - length a) ∙ ap (convolution a b m) e

pub convolution-start : (a b : List ℕ) (m : ℕ) → 0 ≡ convolution a b m 0
unfolding convolution
convolution-start a b m = refl

pub convolution_more : (a b : List ℕ) (m k c d : ℕ) → c ≡ get_or a k 0 → d ≡ get_or b (m - k) 0
    → bit_xor (convolution a b m k) (times c d) ≡ convolution a b m (suc k)
unfolding convolution
convolution_more a b m k c d e f =
    ap (λ (y : ℕ). bit_xor (convolution a b m k) (times y d)) e
    ∙ ap (λ (y : ℕ). bit_xor (convolution a b m k) (times (get_or a k 0) y)) f

-- ---- derivatives

twice : (s c : ℕ) → bit_xor (bit_xor s c) c ≡ s
twice s c = xor_assoc s c c ∙ ap (bit_xor s) (xor_self c) ∙ xor_zero_r s

pub copies-even : (n c : ℕ) → n % 2 ≡ 0 → copies n c ≡ 0
unfolding copies
copies-even zero c h = refl
copies-even (suc zero) c h = absurd (omega arith)
copies-even (suc (suc n)) c h = twice (copies n c) c ∙ copies-even n c (omega arith)

pub copies-odd : (n c : ℕ) → n % 2 ≡ 1 → copies n c ≡ c
unfolding copies
copies-odd zero c h = absurd (omega arith)
copies-odd (suc zero) c h = refl
copies-odd (suc (suc n)) c h = twice (copies n c) c ∙ copies-odd n c (omega arith)

pub length-derivative : (cs : List ℕ) → length (derivative cs) ≡ length cs - 1
unfolding derivative
length-derivative [] = refl
length-derivative (c ∷ []) = refl
length-derivative (c ∷ d ∷ ds) =
    ap suc (length-derivative (d ∷ ds))
    ∙ (let e : suc (suc (length ds) - 1) ≡ suc (suc (length ds)) - 1 = omega arith in e)

pub get_or-derivative : (cs : List ℕ) (i : ℕ) → i < length cs - 1
    → get_or (derivative cs) i 0 ≡ copies (length cs - 1 - i) (get_or cs i 0)
unfolding derivative
get_or-derivative [] i h = absurd (omega arith)
get_or-derivative (c ∷ []) i h = absurd (omega arith)
get_or-derivative (c ∷ d ∷ ds) zero h =
    let e : suc (suc (length ds)) - 1 - 0 ≡ suc (length ds) = omega arith in sym (ap (λ (n : ℕ). copies n c) e)
get_or-derivative (c ∷ d ∷ ds) (suc i) h =
    let e : suc (length ds) - 1 - i ≡ suc (suc (length ds)) - 1 - suc i = omega arith in
    get_or-derivative (d ∷ ds) i (omega arith) ∙ ap (λ (n : ℕ). copies n (get_or (d ∷ ds) i 0)) e

pub derivative_more : (cs : List ℕ) (i : ℕ) → i < length cs - 1
    → take (i + 1) (derivative cs) ≡ take i (derivative cs) ++ copies (length cs - 1 - i) (get_or cs i 0) ∷ []
derivative_more cs i h =
    take_more (derivative cs) i 0 (rw (length-derivative cs) h)
    ∙ ap (λ (y : ℕ). take i (derivative cs) ++ y ∷ []) (get_or-derivative cs i h)
