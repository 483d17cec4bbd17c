-- The table of powers, and sums of products with its rows.
use Rattle.std.proofs.Common.{◌≡◌, ◌<◌, ◌≤◌, ◌+◌, ◌*◌, ◌/◌, ◌%◌, ◌∙◌, ℕ, suc, zero, List, [], ◌∷◌, get_or, length, drop, refl, sym, ap, eqb, ltb, true, arith, drop-cons, length-drop, subst, ◌-◌, inl, inr}
use Rattle.std.specs.Prelude.{bit_xor}
use Rattle.std.specs.Int.Bits.{xor_assoc, xor_comm, xor_zero_r}
use Rattle.std.specs.Simd.Lanes.{put_chunk}
use Rattle.std.proofs.lemmas.Bool.{cases_lt}
use Rattle.std.proofs.lemmas.Simd.{get_or-zip2, get_or-put_chunk_at, get_or-put_chunk_below}
use lib.Lanes.{zip2}
use Rattle.tm_gf256.specs.declared.Gf.{Gf}
use Rattle.tm_gf256.specs.Field.{times, power, bit_product, remainder}
use Rattle.std.proofs.lemmas.Bool.{ltb-true}
use Rattle.tm_gf256.proofs.Below.{all_below, at_below, same_below}
use Rattle.tm_gf256.proofs.Ring.{power-add}
use Rattle.tm_gf256.proofs.PolyLemmas.{length-numbers}
use Rattle.tm_rs_code.specs.Code.{place_of}
use Rattle.tm_gf256.specs.Poly.{numbers, value_at}
use Rattle.tm_rs_code.specs.declared.lanes.powers.TheConstants.{LOW_HALVES, HIGH_HALVES}
use Rattle.tm_rs_code.specs.Powers.{ArePowers}

abbrev low_half : ℕ → ℕ → ℕ → ℕ
low_half g k m = get_or (get_or (get_or LOW_HALVES g []) k []) m 0

abbrev high_half : ℕ → ℕ → ℕ → ℕ
high_half g k m = get_or (get_or (get_or HIGH_HALVES g []) k []) m 0

abbrev entry : ℕ → ℕ → ℕ → ℕ
entry g k m = low_half g k m + 16 * high_half g k m

ones_pass : all_below 256 (λ t. eqb (entry (t / 16) 0 (t % 16)) 1) ≡ true
ones_pass = refl

bases_pass : all_below 255 (λ p. eqb (entry (suc p / 16) 1 (suc p % 16))
    (times (entry (p / 16) 1 (p % 16)) (power 2 11))) ≡ true
unfolding times power bit_product remainder
bases_pass = refl

products_pass : all_below 8192 (λ t. eqb (entry (t / 512) (suc (t / 16 % 32)) (t % 16))
    (times (entry (t / 512) (t / 16 % 32) (t % 16)) (entry (t / 512) 1 (t % 16)))) ≡ true
unfolding times bit_product remainder
products_pass = refl

place_next : (p : ℕ) → place_of (suc p) ≡ times (place_of p) (power 2 11)
unfolding place_of
place_next p = let e : 11 * suc p ≡ 11 * p + 11 = omega arith in ap (power 2) e ∙ power-add 2 (11 * p) 11

base_zero : entry (0 / 16) 1 (0 % 16) ≡ place_of 0
unfolding place_of power
base_zero = refl

base_is : (p : ℕ) → p < 256 → entry (p / 16) 1 (p % 16) ≡ place_of p
base_is zero lt = base_zero
base_is (suc p) lt =
    same_below 255 (λ p. entry (suc p / 16) 1 (suc p % 16))
    (λ p. times (entry (p / 16) 1 (p % 16)) (power 2 11)) bases_pass p (omega arith)
    ∙ ap (λ (x : ℕ). times x (power 2 11)) (base_is p (omega arith)) ∙ sym (place_next p)

group_base : (g m : ℕ) → g < 16 → m < 16 → entry g 1 m ≡ place_of (16 * g + m)
group_base g m lg lm =
    let a : (16 * g + m) / 16 ≡ g = omega arith in
    let b : (16 * g + m) % 16 ≡ m = omega arith in
    sym (ap (λ (x : ℕ). entry x 1 ((16 * g + m) % 16)) a ∙ ap (λ (x : ℕ). entry g 1 x) b)
    ∙ base_is (16 * g + m) (omega arith)

entry_next : (g k m : ℕ) → g < 16 → k < 32 → m < 16 → entry g (suc k) m ≡ times (entry g k m) (entry g 1 m)
entry_next g k m lg lk lm =
    let t = 512 * g + 16 * k + m in
    let a : t / 512 ≡ g = omega arith in
    let q : t / 16 ≡ 32 * g + k = omega arith in
    let b : t / 16 % 32 ≡ k = omega (arith, q) in
    let d : t % 16 ≡ m = omega arith in
    let h = same_below 8192 (λ t. entry (t / 512) (suc (t / 16 % 32)) (t % 16))
    (λ t. times (entry (t / 512) (t / 16 % 32) (t % 16)) (entry (t / 512) 1 (t % 16))) products_pass t
    (omega arith) in
    let P : ℕ → ℕ → ℕ → Type 0 = λ x y z. entry x (suc y) z ≡ times (entry x y z) (entry x 1 z) in
    subst (λ (z : ℕ). P g k z) d (subst (λ (y : ℕ). P g y (t % 16)) b
    (subst (λ (x : ℕ). P x (t / 16 % 32) (t % 16)) a h))

entry_is : (g k m : ℕ) → g < 16 → k < 33 → m < 16 → entry g k m ≡ power (place_of (16 * g + m)) k
unfolding power
entry_is g zero m lg lk lm =
    let a : (16 * g + m) / 16 ≡ g = omega arith in
    let b : (16 * g + m) % 16 ≡ m = omega arith in
    sym (ap (λ (x : ℕ). entry x 0 ((16 * g + m) % 16)) a ∙ ap (λ (x : ℕ). entry g 0 x) b)
    ∙ same_below 256 (λ t. entry (t / 16) 0 (t % 16)) (λ t. 1) ones_pass (16 * g + m) (omega arith)
entry_is g (suc k) m lg lk lm =
    entry_next g k m lg (omega arith) lm
    ∙ ap (λ (x : ℕ). times x (entry g 1 m)) (entry_is g k m lg (omega arith) lm)
    ∙ ap (times (power (place_of (16 * g + m)) k)) (group_base g m lg lm)

lows_pass : all_below 8448 (λ t. ltb (low_half (t / 528) (t / 16 % 33) (t % 16)) 16) ≡ true
lows_pass = refl

highs_pass : all_below 8448 (λ t. ltb (high_half (t / 528) (t / 16 % 33) (t % 16)) 16) ≡ true
highs_pass = refl

-- what a test of all entries says of one
small_at : (half : ℕ → ℕ → ℕ → ℕ) → all_below 8448 (λ t. ltb (half (t / 528) (t / 16 % 33) (t % 16)) 16) ≡ true
    → (g k m : ℕ) → g < 16 → k < 33 → m < 16 → half g k m < 16
small_at half pass g k m lg lk lm =
    let t = 528 * g + 16 * k + m in
    let a : t / 528 ≡ g = omega arith in
    let q : t / 16 ≡ 33 * g + k = omega arith in
    let b : t / 16 % 33 ≡ k = omega (arith, q) in
    let d : t % 16 ≡ m = omega arith in
    let h : half (t / 528) (t / 16 % 33) (t % 16) < 16 = ltb-true (half (t / 528) (t / 16 % 33) (t % 16)) 16
    (at_below 8448 (λ t. ltb (half (t / 528) (t / 16 % 33) (t % 16)) 16) pass t (omega arith)) in
    subst (λ (z : ℕ). half g k z < 16) d (subst (λ (y : ℕ). half g y (t % 16) < 16) b
    (subst (λ (x : ℕ). half x (t / 16 % 33) (t % 16) < 16) a h))

pub powers_are : (g : ℕ) → g < 16 → ArePowers (λ m. place_of (16 * g + m)) (get_or LOW_HALVES g [])
    (get_or HIGH_HALVES g [])
powers_are g lg = record {
  low = λ k m lk lm. small_at low_half lows_pass g k m lg lk lm;
  high = λ k m lk lm. small_at high_half highs_pass g k m lg lk lm;
  each = λ k m lk lm. entry_is g k m lg lk lm;
}

-- ---- the sum

-- a lane of the sum, and the polynomial that is left
pub sum_more : (x : ℕ) (poly : List Gf) (i m k : ℕ) → i < length poly → k + i + 1 ≡ length poly → m < 16
    → (sum product : List ℕ) (d : ℕ) → length sum ≡ 16 → length product ≡ 16
    → d ≡ (get_or poly i (record { 0 = 0 })).0 → get_or product m 0 ≡ times d (power x k)
    → bit_xor (get_or sum m 0) (value_at (numbers (drop i poly)) x) ≡ value_at (numbers poly) x
    → bit_xor (get_or (zip2 bit_xor sum product) m 0) (value_at (numbers (drop (i + 1) poly)) x)
    ≡ value_at (numbers poly) x
sum_more x poly i m k lt there lm sum product d ls lp dis is h =
    let rest = numbers (drop (suc i) poly) in
    let next : i + 1 ≡ suc i = omega arith in
    let size : length rest ≡ k = length-numbers (drop (suc i) poly) ∙ length-drop (suc i) poly ∙ omega arith in
    let prefix : numbers (drop i poly) ≡ d ∷ rest = ap numbers (drop-cons poly i (record { 0 = 0 }) lt)
    ∙ ap (λ (v : ℕ). v ∷ rest) (sym dis) in
    let lane : get_or (zip2 bit_xor sum product) m 0 ≡ bit_xor (get_or sum m 0) (times d (power x k)) =
    get_or-zip2 bit_xor sum product m 0 0 0 (omega arith) (omega arith) ∙ ap (bit_xor (get_or sum m 0)) is in
    ap (λ (j : ℕ). bit_xor (get_or (zip2 bit_xor sum product) m 0) (value_at (numbers (drop j poly)) x)) next
    ∙ ap (λ (v : ℕ). bit_xor v (value_at rest x)) lane
    ∙ xor_assoc (get_or sum m 0) (times d (power x k)) (value_at rest x)
    ∙ ap (λ (n : ℕ). bit_xor (get_or sum m 0) (bit_xor (times d (power x n)) (value_at rest x))) (sym size)
    ∙ ap (λ (l : List ℕ). bit_xor (get_or sum m 0) (value_at l x)) (sym prefix)
    ∙ h

abbrev pub sixteen_zeros : List ℕ
sixteen_zeros = 0 ∷ 0 ∷ 0 ∷ 0 ∷ 0 ∷ 0 ∷ 0 ∷ 0 ∷ 0 ∷ 0 ∷ 0 ∷ 0 ∷ 0 ∷ 0 ∷ 0 ∷ 0 ∷ []

zeros_pass : all_below 16 (λ m. eqb (get_or sixteen_zeros m 0) 0) ≡ true
zeros_pass = refl

-- the sum before the first product
pub sum_none : (m v : ℕ) → m < 16 → bit_xor (get_or sixteen_zeros m 0) v ≡ v
sum_none m v lt =
    ap (λ (x : ℕ). bit_xor x v) (same_below 16 (λ m. get_or sixteen_zeros m 0) (λ m. 0) zeros_pass m lt)
    ∙ xor_comm 0 v ∙ xor_zero_r v

-- sixteen more values, stored after the others
pub put_values : (value : ℕ → ℕ) (out lanes : List ℕ) (a : ℕ) → length lanes ≡ 16 → a + 16 ≤ length out
    → ((m : ℕ) → m < 16 → get_or lanes m 0 ≡ value (a + m))
    → ((i : ℕ) → i < a → get_or out i 0 ≡ value i) → (i : ℕ) → i < a + 16 → get_or (put_chunk a out lanes) i 0 ≡ value i
put_values value out lanes a long room new old i lt = elim (cases_lt i a) [
  | inl below ↦ get_or-put_chunk_below a out lanes i 0 below ∙ old i below
  | inr above ↦
      (let j = i - a in
      let e : i ≡ a + j = omega arith in
      ap (λ (k : ℕ). get_or (put_chunk a out lanes) k 0) e
      ∙ get_or-put_chunk_at a out lanes j 0 (omega (arith, long)) (omega (arith, long))
      ∙ new j (omega arith)
      ∙ ap value (sym e))
]
