-- Factors that name places, in any order.
use Rattle.std.proofs.Common.{◌≡◌, ◌<◌, ◌≤◌, ◌+◌, ℕ, suc, List, [], ◌∷◌, arith, ap, sym, ◌∙◌, refl, subst}
use Rattle.std.specs.Prelude.{bit_xor}
use Rattle.std.specs.Int.Bits.{xor_assoc, xor_comm, xor_zero_r}
use Rattle.tm_gf256.specs.Field.{times}
use Rattle.tm_gf256.specs.declared.Gf.{Gf}
use Rattle.tm_gf256.specs.Poly.{entry}
use Rattle.tm_gf256.proofs.Ring.{times-assoc, times-comm, times-plus, times-zero}
use Rattle.tm_rs_code.specs.Pattern.{carry, times_linear}
use Rattle.tm_rs_code.specs.Recurrence.{listing, patched}
use Rattle.tm_rs.proofs.Erasures.{listing-linear, listing-same}

-- ---- two factors

times-swap : (x y b : ℕ) → times x (times y b) ≡ times y (times x b)
times-swap x y b = sym (times-assoc x y b) ∙ ap (λ n. times n b) (times-comm x y) ∙ times-assoc y x b

xor-swap : (a b c : ℕ) → bit_xor a (bit_xor b c) ≡ bit_xor b (bit_xor a c)
xor-swap a b c = sym (xor_assoc a b c) ∙ ap (λ n. bit_xor n c) (xor_comm a b) ∙ xor_assoc b a c

first-swap : (x y a b : ℕ) → bit_xor (times y a) (times x (bit_xor a (times y b)))
    ≡ bit_xor (times x a) (times y (bit_xor a (times x b)))
first-swap x y a b =
    ap (bit_xor (times y a)) (times-plus x a (times y b))
    ∙ xor-swap (times y a) (times x a) (times x (times y b))
    ∙ ap (λ n. bit_xor (times x a) (bit_xor (times y a) n)) (times-swap x y b)
    ∙ ap (bit_xor (times x a)) (sym (times-plus y a (times x b)))

next-swap : (x y q a b : ℕ) → bit_xor (bit_xor q (times y a)) (times x (bit_xor a (times y b)))
    ≡ bit_xor (bit_xor q (times x a)) (times y (bit_xor a (times x b)))
next-swap x y q a b =
    xor_assoc q (times y a) (times x (bit_xor a (times y b))) ∙ ap (bit_xor q) (first-swap x y a b)
    ∙ sym (xor_assoc q (times x a) (times y (bit_xor a (times x b))))

carry-swap : (x y a b : ℕ) (qs : List ℕ) → carry x (bit_xor a (times y b)) (carry y a qs)
    ≡ carry y (bit_xor a (times x b)) (carry x a qs)
carry-swap x y a b [] = (λ i. first-swap x y a b i ∷ times-swap x y a i ∷ [])
carry-swap x y a b (q ∷ qs) = (λ i. next-swap x y q a b i ∷ carry-swap x y q a qs i)

pub linear-swap : (x y : ℕ) (qs : List ℕ) → times_linear x (times_linear y qs) ≡ times_linear y (times_linear x qs)
linear-swap x y [] = refl
linear-swap x y (a ∷ qs) =
    let none : (z : ℕ) → bit_xor a (times z 0) ≡ a = λ z. ap (bit_xor a) (times-zero z) ∙ xor_zero_r a in
    ap (λ ys. a ∷ ys)
    (ap (λ n. carry x n (carry y a qs)) (sym (none y)) ∙ carry-swap x y a 0 qs
    ∙ ap (λ n. carry y n (carry x a qs)) (none x))

-- ---- the coefficients of a polynomial

-- these are its coefficients, and after them zeros
pub record IsListed (c : ℕ → ℕ) (degree : ℕ) (q : List ℕ) : Type 0 where
  pub listed : listing c 0 (suc degree) ≡ q
  pub beyond : (i : ℕ) → suc degree ≤ i → c i ≡ 0

pub listed_more : (c d : ℕ → ℕ) (degree x : ℕ) (q : List ℕ) → IsListed c degree q
    → ((i : ℕ) → i < degree + 2 → d i ≡ patched c x 1 c i) → ((i : ℕ) → degree + 2 ≤ i → d i ≡ c i)
    → IsListed d (degree + 1) (times_linear x q)
listed_more c d degree x q h changed rest =
    let e : suc (degree + 1) ≡ suc (suc degree) = omega arith in
    record {
      listed =
          ap (listing d 0) e
          ∙ listing-same d (patched c x 1 c) 0 (suc (suc degree)) (λ k lt. changed k (omega arith))
          ∙ sym (listing-linear c x degree (h.beyond (suc degree) (omega arith)))
          ∙ ap (times_linear x) h.listed;
      beyond = λ i lt. rest i (omega arith) ∙ h.beyond i (omega arith);
    }

pub listed_as : (xs ys : List Gf) (d d' : ℕ) (q r : List ℕ) → xs ≡ ys → d ≡ d' → q ≡ r → IsListed (entry ys) d' r
    → IsListed (entry xs) d q
listed_as xs ys d d' q r e f s h =
    subst (IsListed (entry xs) d) (sym s) (subst (λ (k : ℕ). IsListed (entry xs) k r) (sym f)
    (subst (λ (zs : List Gf). IsListed (entry zs) d' r) (sym e) h))
