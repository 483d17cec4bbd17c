-- What is left of a word that is divided by the generator polynomial, and what it says where it is 0.
use Rattle.std.proofs.Common.{◌≡◌, ◌<◌, ◌≤◌, ◌+◌, ◌*◌, ◌++◌, ◌∙◌, ℕ, suc, Bool, List, [], ◌∷◌, length, take, drop, refl, sym, ap, arith, length-drop}
use Rattle.std.specs.Prelude.{bit_xor}
use Rattle.std.proofs.lemmas.Bool.{eq-eqb}
use Rattle.std.proofs.lemmas.List.{take-append-drop, get_or-drop}
use Rattle.tm_gf256.specs.declared.Gf.{Gf}
use Rattle.tm_gf256.specs.Field.{times, power}
use Rattle.tm_gf256.specs.Poly.{entry, numbers, value_at}
use Rattle.tm_gf256.proofs.PolyLemmas.{length-numbers, numbers-append, get_or-numbers}
use Rattle.tm_gf256.proofs.Ring.{plus_apart, zero-times}
use Rattle.tm_rs_code.specs.Code.{AreElements, distance, root}
use Rattle.tm_rs_code.specs.Erasures.{IsNearestErased, count_erased, inside, outside}
use Rattle.tm_rs_code.specs.Erasures.NearestErased.{Fixed as FixedBoth}
use Rattle.tm_rs_code.specs.Nearest.{IsCodewordOf, IsNearest}
use Rattle.tm_rs_code.specs.Nearest.Nearest.{Fixed}
use Rattle.tm_rs_code.specs.Register.{sums}
use Rattle.tm_rs_code.proofs.DistanceLaw.{value_at-sums}
use Rattle.tm_rs_code.proofs.Register.{value_at-append}
use Rattle.tm_rs.proofs.Words.{sums_by_entries}

-- ---- values

-- where a ++ b has the root x, b + c has the value of a ++ c
same_values : (x : ℕ) (info checks tail : List ℕ) → length checks ≡ length tail → value_at (info ++ checks) x ≡ 0
    → value_at (sums checks tail) x ≡ value_at (info ++ tail) x
same_values x info checks tail long h =
    let part : times (value_at info x) (power x (length checks)) ≡ value_at checks x =
    plus_apart (times (value_at info x) (power x (length checks))) (value_at checks x)
    (sym (value_at-append info checks x) ∙ h) in
    value_at-sums checks tail x long
    ∙ ap (λ (v : ℕ). bit_xor v (value_at tail x)) (sym part ∙ ap (λ (n : ℕ). times (value_at info x) (power x n)) long)
    ∙ sym (value_at-append info tail x)

pub remainder_values : (x at : ℕ) (word checks left : List Gf) → at + length checks ≡ length word
    → length left ≡ length checks
    → ((j : ℕ) → j < length checks → entry left j ≡ bit_xor (entry checks j) (entry word (at + j)))
    → value_at (numbers (take at word) ++ numbers checks) x ≡ 0 → value_at (numbers left) x ≡ value_at (numbers word) x
remainder_values x at word checks left size same each h =
    let tail : List Gf = drop at word in
    let long : length tail ≡ length checks = length-drop at word ∙ omega arith in
    let is : numbers left ≡ sums (numbers checks) (numbers tail) =
    sums_by_entries left checks (numbers tail) same (length-numbers tail ∙ long)
    (λ i lt. each i lt ∙ ap (bit_xor (entry checks i)) (sym
    (ap (λ (g : Gf). g.0) (get_or-drop at word i (record { 0 = 0 }))) ∙ sym (get_or-numbers tail i))) in
    ap (λ (v : List ℕ). value_at v x) is
    ∙ same_values x (numbers (take at word)) (numbers checks) (numbers tail)
    (length-numbers checks ∙ sym long ∙ sym (length-numbers tail)) h
    ∙ ap (λ (v : List ℕ). value_at v x) (sym (numbers-append (take at word) tail)
    ∙ ap numbers (take-append-drop at word))

value_of_zeros : (xs : List Gf) (x : ℕ) → ((i : ℕ) → i < length xs → entry xs i ≡ 0) → value_at (numbers xs) x ≡ 0
value_of_zeros [] x h = refl
value_of_zeros (y ∷ ys) x h =
    ap (λ (v : ℕ). bit_xor (times v (power x (length (numbers ys)))) (value_at (numbers ys) x)) (h 0 (omega arith))
    ∙ ap (λ (v : ℕ). bit_xor v (value_at (numbers ys) x)) (zero-times (power x (length (numbers ys))))
    ∙ value_of_zeros ys x (λ i lt. h (suc i) (omega arith))

-- ---- nothing is left

distance-self : (xs : List ℕ) → distance xs xs ≡ 0
distance-self [] = refl
distance-self (x ∷ xs) = rw (eq-eqb x x refl) (omega (arith, distance-self xs))

codeword_itself : (e : ℕ) (word left : List Gf) → ((k : ℕ) → k < 2 * e
    → value_at (numbers left) (root e k) ≡ value_at (numbers word) (root e k))
    → ((i : ℕ) → i < length left → entry left i ≡ 0) → AreElements (numbers word)
    → IsCodewordOf e (length (numbers word)) (numbers word)
codeword_itself e word left same zeros elements = record {
  size = refl;
  elements = elements;
  codeword = λ k lt. sym (same k lt) ∙ value_of_zeros left (root e k) zeros;
}

pub fixed_none : (e repair : ℕ) (word left : List Gf) → ((k : ℕ) → k < 2 * e
    → value_at (numbers left) (root e k) ≡ value_at (numbers word) (root e k))
    → ((i : ℕ) → i < length left → entry left i ≡ 0) → AreElements (numbers word)
    → IsNearest e repair (numbers word) (Fixed (numbers word) 0)
fixed_none e repair word left same zeros elements =
    (codeword_itself e word left same zeros elements, distance-self (numbers word), omega arith)

pub fixed_none_erased : (e repair : ℕ) (fs : List Bool) (word left : List Gf) → count_erased fs ≤ 2 * e
    → ((k : ℕ) → k < 2 * e → value_at (numbers left) (root e k) ≡ value_at (numbers word) (root e k))
    → ((i : ℕ) → i < length left → entry left i ≡ 0) → AreElements (numbers word)
    → IsNearestErased e repair fs (numbers word) (FixedBoth (numbers word) 0 0)
fixed_none_erased e repair fs word left few same zeros elements =
    let none : distance (outside fs (numbers word)) (outside fs (numbers word)) ≡ 0 =
    distance-self (outside fs (numbers word)) in (
      codeword_itself e word left same zeros elements,
      record { bounded = omega (arith, none); few = omega (arith, none) },
      none,
      distance-self (inside fs (numbers word)),
    )
