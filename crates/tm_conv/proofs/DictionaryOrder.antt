-- Lists of bits in the order of a dictionary, as in that of the numbers whose binary digits they are.
use Rattle.std.proofs.Common.{◌≡◌, ℕ, ◌+◌, ◌*◌, ◌^◌, ◌<◌, ◌≤◌, ◌∙◌, inl, inr, ap, sym, arith, length, List, [], ◌∷◌, ◌++◌, suc}
use Rattle.std.specs.List.{All}
use Rattle.std.proofs.lemmas.List.{reverse-append}
use Rattle.std.proofs.lemmas.List.Elements.{All-head, All-tail, All-same, All-push, All-from_recursion}
use Rattle.std.proofs.lemmas.Bool.{cases_order}
use Rattle.std.proofs.Math.Nat.{pow-suc, mul-le-mul_right}
use mathlib.Core.List.{reverse}
use Rattle.tm_conv.specs.Best.{IsLexLe, register_bits}

-- the number whose binary digits these are
unfoldable pub value : List ℕ → ℕ
value [] = 0
value (x ∷ xs) = x * 2 ^ length xs + value xs

pub value_lt : (xs : List ℕ) → All (λ b. b < 2) xs → value xs < 2 ^ length xs
unfolding value
value_lt [] each = omega arith
value_lt (x ∷ xs) each =
    let h = value_lt xs (All-tail (λ b. b < 2) x xs each) in
    let b : x < 2 = All-head (λ b. b < 2) x xs each in
    let le : x * 2 ^ length xs ≤ 1 * 2 ^ length xs = mul-le-mul_right (2 ^ length xs) (omega arith) in
    omega (arith, h, le, pow-suc 2 (length xs))

pub IsLexLe-from_value : (xs ys : List ℕ) → All (λ b. b < 2) xs → All (λ b. b < 2) ys → length xs ≡ length ys
    → value xs ≤ value ys → IsLexLe xs ys
unfolding value
IsLexLe-from_value [] ys a b l le = tt
IsLexLe-from_value (x ∷ xs) [] a b l le = absurd (let h : suc (length xs) ≡ 0 = l in omega arith)
IsLexLe-from_value (x ∷ xs) (y ∷ ys) a b l le =
    let long : length xs ≡ length ys = (let h : suc (length xs) ≡ suc (length ys) = l in omega arith) in
    let size = 2 ^ length xs in
    let same : 2 ^ length ys ≡ size = ap (λ v. 2 ^ v) (sym long) in
    let small = value_lt ys (All-tail (λ b. b < 2) y ys b) in
    let ties : x ≡ y → IsLexLe xs ys = λ e.
    (let f : x * size ≡ y * 2 ^ length ys = ap (λ v. v * size) e ∙ ap (λ v. y * v) (sym same) in
    IsLexLe-from_value xs ys (All-tail (λ b. b < 2) x xs a) (All-tail (λ b. b < 2) y ys b) long
    (omega (arith, le, f))) in
    elim (cases_order x y) [
      | inl e ↦ inr (e, ties e)
      | inr (inl h) ↦ inl h
      | inr (inr g) ↦ absurd
          (let k : suc y * size ≤ x * size = mul-le-mul_right size g in
          let m : suc y * size ≡ y * size + size = omega arith in
          let f : y * 2 ^ length ys ≡ y * size = ap (λ v. y * v) same in
          omega (arith, k, m, f, le, small, same))
    ]

pub register_bits_small : (r : ℕ) → All (λ b. b < 2) (register_bits r)
register_bits_small r = All-from_recursion (λ b. b < 2) (register_bits r)
    (omega arith, (omega arith, (omega arith, (omega arith, (omega arith, (omega arith, tt))))))

pub All-reverse : (xs : List ℕ) → All (λ b. b < 2) xs → All (λ b. b < 2) (reverse xs)
All-reverse [] each = each
All-reverse (x ∷ xs) each =
    All-same (λ b. b < 2) (reverse (x ∷ xs)) (reverse xs ++ x ∷ []) (reverse-append (x ∷ []) xs)
    (All-push (λ b. b < 2) (reverse xs) x (All-reverse xs (All-tail (λ b. b < 2) x xs each))
    (All-head (λ b. b < 2) x xs each))
