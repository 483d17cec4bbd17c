-- The value of a product is the product of the values.
use Rattle.std.proofs.Common.{◌≡◌, ℕ, zero, suc, ◌+◌, ◌-◌, List, [], ◌∷◌, length, get_or, map, refl, ap, sym, ◌∙◌, arith, add-one, zero-add}
use Rattle.std.specs.Prelude.{bit_xor}
use Rattle.std.specs.List.{range_with_len}
use Rattle.std.specs.Int.Bits.{xor_zero_r, xor_assoc, xor_comm}
use Rattle.std.proofs.lemmas.List.FromFn.{length-map-range_with_len}
use Rattle.std.proofs.Math.Nat.{suc-add}
use Rattle.tm_gf256.specs.Field.{times, power}
use Rattle.tm_gf256.specs.Poly.{value_at, convolution, product}
use Rattle.tm_gf256.proofs.Ring.{times-comm, times-assoc, times-plus, plus-times, times-zero, zero-times, power-add}

-- ---- lists from functions

-- the polynomial of n coefficients f s, f (s + 1) and so on
abbrev listing : (ℕ → ℕ) → ℕ → ℕ → List ℕ
listing f s n = map f (range_with_len s n)

listing-next : (f : ℕ → ℕ) (s n : ℕ) → listing f (s + 1) n ≡ listing (λ m. f (suc m)) s n
listing-next f s zero = refl
listing-next f s (suc n) =
    ap (λ (k : ℕ). f k ∷ listing f (s + 1 + 1) n) (add-one s)
    ∙ ap (λ (l : List ℕ). f (suc s) ∷ l) (listing-next f (s + 1) n)

listing-same : (f g : ℕ → ℕ) → ((m : ℕ) → f m ≡ g m) → (s n : ℕ) → listing f s n ≡ listing g s n
listing-same f g all s n j = listing (λ i. all i j) s n

-- the power of x at the head of n + 1 coefficients
head_power : (f : ℕ → ℕ) (s n c x : ℕ) → value_at (c ∷ listing f s n) x
    ≡ bit_xor (times c (power x n)) (value_at (listing f s n) x)
head_power f s n c x =
    ap (λ (k : ℕ). bit_xor (times c (power x k)) (value_at (listing f s n) x)) (length-map-range_with_len f s n)

-- the middle two of four sums change places
pub middle : (a b c d : ℕ) → bit_xor (bit_xor a b) (bit_xor c d) ≡ bit_xor (bit_xor a c) (bit_xor b d)
middle a b c d =
    xor_assoc a b (bit_xor c d) ∙ ap (bit_xor a) (sym (xor_assoc b c d) ∙ ap (λ (y : ℕ). bit_xor y d) (xor_comm b c)
    ∙ xor_assoc c b d)
    ∙ sym (xor_assoc a c (bit_xor b d))

value_at-sum : (f g : ℕ → ℕ) (s n x : ℕ)
    → value_at (listing (λ m. bit_xor (f m) (g m)) s n) x ≡ bit_xor (value_at (listing f s n) x)
    (value_at (listing g s n) x)
value_at-sum f g s zero x = refl
value_at-sum f g s (suc n) x =
    head_power (λ m. bit_xor (f m) (g m)) (s + 1) n (bit_xor (f s) (g s)) x
    ∙ ap (bit_xor (times (bit_xor (f s) (g s)) (power x n))) (value_at-sum f g (s + 1) n x)
    ∙ ap (λ (y : ℕ). bit_xor y (bit_xor (value_at (listing f (s + 1) n) x) (value_at (listing g (s + 1) n) x)))
    (plus-times (f s) (g s) (power x n))
    ∙ middle (times (f s) (power x n)) (times (g s) (power x n)) (value_at (listing f (s + 1) n) x)
    (value_at (listing g (s + 1) n) x)
    ∙ sym (ap (λ (y : ℕ). bit_xor y (value_at (listing g s (suc n)) x)) (head_power f (s + 1) n (f s) x)
    ∙ ap (bit_xor (bit_xor (times (f s) (power x n)) (value_at (listing f (s + 1) n) x)))
    (head_power g (s + 1) n (g s) x))

value_at-scaled : (c : ℕ) (f : ℕ → ℕ) (s n x : ℕ)
    → value_at (listing (λ m. times c (f m)) s n) x ≡ times c (value_at (listing f s n) x)
value_at-scaled c f s zero x = sym (times-zero c)
value_at-scaled c f s (suc n) x =
    head_power (λ m. times c (f m)) (s + 1) n (times c (f s)) x
    ∙ ap (bit_xor (times (times c (f s)) (power x n))) (value_at-scaled c f (s + 1) n x)
    ∙ ap (λ (y : ℕ). bit_xor y (times c (value_at (listing f (s + 1) n) x))) (times-assoc c (f s) (power x n))
    ∙ sym (times-plus c (times (f s) (power x n)) (value_at (listing f (s + 1) n) x))
    ∙ sym (ap (times c) (head_power f (s + 1) n (f s) x))

value_at-zeros : (s n x : ℕ) → value_at (listing (λ _. 0) s n) x ≡ 0
value_at-zeros s zero x = refl
value_at-zeros s (suc n) x =
    head_power (λ _. 0) (s + 1) n 0 x
    ∙ ap (λ (y : ℕ). bit_xor y (value_at (listing (λ _. 0) (s + 1) n) x)) (zero-times (power x n))
    ∙ value_at-zeros (s + 1) n x

-- a polynomial with k zeros after it is times x^k
value_at-raised : (b : List ℕ) (k x : ℕ)
    → value_at (listing (λ m. get_or b m 0) 0 (length b + k)) x ≡ times (value_at b x) (power x k)
value_at-raised [] k x =
    ap (λ (n : ℕ). value_at (listing (λ _. 0) 0 n) x) (zero-add k) ∙ value_at-zeros 0 k x ∙ sym (zero-times (power x k))
value_at-raised (c ∷ cs) k x =
    ap (λ (j : ℕ). value_at (listing (λ m. get_or (c ∷ cs) m 0) 0 j) x) (suc-add (length cs) k)
    ∙ ap (λ (l : List ℕ). value_at (c ∷ l) x) (listing-next (λ m. get_or (c ∷ cs) m 0) 0 (length cs + k))
    ∙ head_power (λ m. get_or cs m 0) 0 (length cs + k) c x
    ∙ ap (bit_xor (times c (power x (length cs + k)))) (value_at-raised cs k x)
    ∙ ap (λ (y : ℕ). bit_xor (times c y) (times (value_at cs x) (power x k))) (power-add x (length cs) k)
    ∙ ap (λ (y : ℕ). bit_xor y (times (value_at cs x) (power x k)))
    (sym (times-assoc c (power x (length cs)) (power x k)))
    ∙ sym (plus-times (times c (power x (length cs))) (value_at cs x) (power x k))

-- ---- the coefficients of a product

convolution-none : (b : List ℕ) (m k : ℕ) → convolution [] b m k ≡ 0
unfolding convolution
convolution-none b m zero = refl
convolution-none b m (suc k) =
    ap (λ (y : ℕ). bit_xor y (times 0 (get_or b (m - k) 0))) (convolution-none b m k) ∙ zero-times (get_or b (m - k) 0)

convolution-by_none : (a : List ℕ) (m k : ℕ) → convolution a [] m k ≡ 0
unfolding convolution
convolution-by_none a m zero = refl
convolution-by_none a m (suc k) =
    ap (λ (y : ℕ). bit_xor y (times (get_or a k 0) 0)) (convolution-by_none a m k) ∙ times-zero (get_or a k 0)

-- one coefficient more before the others
convolution-cons : (c : ℕ) (cs b : List ℕ) (m k : ℕ)
    → convolution (c ∷ cs) b (suc m) (suc k) ≡ bit_xor (times c (get_or b (suc m) 0)) (convolution cs b m k)
unfolding convolution
convolution-cons c cs b m zero =
    let e : suc m - 0 ≡ suc m = omega arith in
    ap (λ (j : ℕ). times c (get_or b j 0)) e ∙ sym (xor_zero_r (times c (get_or b (suc m) 0)))
convolution-cons c cs b m (suc k) =
    let e : suc m - suc k ≡ m - k = omega arith in
    ap (λ (y : ℕ). bit_xor y (times (get_or cs k 0) (get_or b (suc m - suc k) 0))) (convolution-cons c cs b m k)
    ∙ ap (λ (j : ℕ). bit_xor (bit_xor (times c (get_or b (suc m) 0)) (convolution cs b m k))
    (times (get_or cs k 0) (get_or b j 0))) e
    ∙ xor_assoc (times c (get_or b (suc m) 0)) (convolution cs b m k) (times (get_or cs k 0) (get_or b (m - k) 0))

-- the coefficients of the product of what follows the first, one place later
delayed : List ℕ → List ℕ → ℕ → ℕ
delayed cs b zero = 0
delayed cs b (suc m) = convolution cs b m (suc m)

coefficient-cons : (c : ℕ) (cs b : List ℕ) (m : ℕ)
    → convolution (c ∷ cs) b m (suc m) ≡ bit_xor (times c (get_or b m 0)) (delayed cs b m)
unfolding convolution delayed
coefficient-cons c cs b zero = sym (xor_zero_r (times c (get_or b 0 0)))
coefficient-cons c cs b (suc m) = convolution-cons c cs b m (suc m)

product-none : (a : List ℕ) (x : ℕ) → value_at (product a []) x ≡ 0
unfolding product
product-none a x =
    ap (λ (l : List ℕ). value_at l x) (listing-same (λ m. convolution a [] m (suc m)) (λ _. 0)
    (λ m. convolution-by_none a m (suc m)) 0 (length a + 0 - 1))
    ∙ value_at-zeros 0 (length a + 0 - 1) x

gather : (c p v w : ℕ) → bit_xor (times c (times v p)) (times w v) ≡ times (bit_xor (times c p) w) v
gather c p v w =
    ap (λ (y : ℕ). bit_xor (times c y) (times w v)) (times-comm v p)
    ∙ ap (λ (y : ℕ). bit_xor y (times w v)) (sym (times-assoc c p v))
    ∙ sym (plus-times (times c p) w v)

value_at-delayed : (cs b : List ℕ) (n x : ℕ) → value_at (listing (delayed cs b) 0 (suc n)) x
    ≡ value_at (listing (λ m. convolution cs b m (suc m)) 0 n) x
unfolding delayed
value_at-delayed cs b n x =
    head_power (delayed cs b) (0 + 1) n 0 x
    ∙ ap (λ (y : ℕ). bit_xor y (value_at (listing (delayed cs b) (0 + 1) n) x)) (zero-times (power x n))
    ∙ ap (λ (l : List ℕ). value_at l x) (listing-next (delayed cs b) 0 n)

pub value_at-product : (a b : List ℕ) (x : ℕ) → value_at (product a b) x ≡ times (value_at a x) (value_at b x)
unfolding product
value_at-product [] b x =
    ap (λ (l : List ℕ). value_at l x) (listing-same (λ m. convolution [] b m (suc m)) (λ _. 0)
    (λ m. convolution-none b m (suc m)) 0 (0 + length b - 1))
    ∙ value_at-zeros 0 (0 + length b - 1) x ∙ sym (zero-times (value_at b x))
value_at-product (c ∷ cs) [] x = product-none (c ∷ cs) x ∙ sym (times-zero (value_at (c ∷ cs) x))
value_at-product (c ∷ cs) (d ∷ ds) x =
    let size : suc (length cs) + suc (length ds) - 1 ≡ suc (length ds) + length cs = omega arith in
    let later : suc (length ds) + length cs ≡ suc (length cs + suc (length ds) - 1) = omega arith in
    ap (λ (n : ℕ). value_at (listing (λ m. convolution (c ∷ cs) (d ∷ ds) m (suc m)) 0 n) x) size
    ∙ ap (λ (l : List ℕ). value_at l x)
    (listing-same (λ m. convolution (c ∷ cs) (d ∷ ds) m (suc m))
    (λ m. bit_xor (times c (get_or (d ∷ ds) m 0)) (delayed cs (d ∷ ds) m))
    (coefficient-cons c cs (d ∷ ds)) 0 (suc (length ds) + length cs))
    ∙ value_at-sum (λ m. times c (get_or (d ∷ ds) m 0)) (delayed cs (d ∷ ds)) 0 (suc (length ds) + length cs) x
    ∙ ap (λ (y : ℕ). bit_xor y (value_at (listing (delayed cs (d ∷ ds)) 0 (suc (length ds) + length cs)) x))
    (value_at-scaled c (λ m. get_or (d ∷ ds) m 0) 0 (suc (length ds) + length cs) x
    ∙ ap (times c) (value_at-raised (d ∷ ds) (length cs) x))
    ∙ ap (bit_xor (times c (times (value_at (d ∷ ds) x) (power x (length cs)))))
    (ap (λ (n : ℕ). value_at (listing (delayed cs (d ∷ ds)) 0 n) x) later
    ∙ value_at-delayed cs (d ∷ ds) (length cs + suc (length ds) - 1) x
    ∙ value_at-product cs (d ∷ ds) x)
    ∙ gather c (power x (length cs)) (value_at (d ∷ ds) x) (value_at cs x)
