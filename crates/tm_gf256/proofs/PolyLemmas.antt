-- Words as numbers, and a polynomial's value, one element at a time.
use Rattle.std.proofs.Common.{◌≡◌, ◌<◌, ◌≤◌, ◌+◌, ℕ, zero, suc, List, [], ◌∷◌, ◌++◌, length, get_or, take, set, refl, ap, sym, ◌∙◌}
use Rattle.std.specs.Prelude.{bit_xor}
use Rattle.std.specs.Int.Bits.{xor_zero_r, xor_assoc}
use Rattle.std.proofs.lemmas.List.{take_more, take_more_set, get_or_past}
use Rattle.tm_gf256.specs.Field.{times, power}
use Rattle.tm_gf256.specs.Poly.{numbers, entry, value_at}
use Rattle.tm_gf256.specs.declared.element.Gf.{Gf}
use Rattle.tm_gf256.proofs.Ring.{times-assoc, plus-times, zero-times, times-one}

pub numbers-append : (xs ys : List Gf) → numbers (xs ++ ys) ≡ numbers xs ++ numbers ys
numbers-append [] ys = refl
numbers-append (x ∷ xs) ys = ap (λ (zs : List ℕ). x.0 ∷ zs) (numbers-append xs ys)

pub length-numbers : (xs : List Gf) → length (numbers xs) ≡ length xs
length-numbers [] = refl
length-numbers (x ∷ xs) = ap suc (length-numbers xs)

pub get_or-numbers : (xs : List Gf) (i : ℕ) → get_or (numbers xs) i 0 ≡ entry xs i
get_or-numbers [] i = refl
get_or-numbers (x ∷ xs) zero = refl
get_or-numbers (x ∷ xs) (suc i) = get_or-numbers xs i

pub get_or-numbers_past : (xs : List Gf) (i : ℕ) → length xs ≤ i → get_or (numbers xs) i 0 ≡ 0
get_or-numbers_past xs i h = get_or_past (numbers xs) i 0 (rw (length-numbers xs) h)

-- one element more, read or written at place i
pub numbers-take_more : (xs : List Gf) (i : ℕ) → i < length xs
    → numbers (take (i + 1) xs) ≡ numbers (take i xs) ++ entry xs i ∷ []
numbers-take_more xs i h = ap numbers (take_more xs i (record { 0 = 0 }) h) ∙ numbers-append (take i xs) _

pub numbers-take_more_set : (xs : List Gf) (i : ℕ) (y : Gf) → i < length xs
    → numbers (take (i + 1) (set xs i y)) ≡ numbers (take i xs) ++ y.0 ∷ []
numbers-take_more_set xs i y h = ap numbers (take_more_set xs i y h) ∙ numbers-append (take i xs) (y ∷ [])

length-push : (cs : List ℕ) (d : ℕ) → length (cs ++ d ∷ []) ≡ suc (length cs)
length-push [] d = refl
length-push (c ∷ cs) d = ap suc (length-push cs d)

-- one more coefficient at the end
pub value_at-push : (cs : List ℕ) (d x : ℕ) → d < 256 → value_at (cs ++ d ∷ []) x ≡ bit_xor (times (value_at cs x) x) d
unfolding power
value_at-push [] d x h =
    xor_zero_r (times d 1) ∙ times-one d h ∙ sym (ap (λ (y : ℕ). bit_xor y d) (zero-times x))
value_at-push (c ∷ cs) d x h =
    ap (λ (y : ℕ). bit_xor (times c (power x y)) (value_at (cs ++ d ∷ []) x)) (length-push cs d)
    ∙ ap (bit_xor (times c (times (power x (length cs)) x))) (value_at-push cs d x h)
    ∙ sym (xor_assoc (times c (times (power x (length cs)) x)) (times (value_at cs x) x) d)
    ∙ ap (λ (y : ℕ). bit_xor (bit_xor y (times (value_at cs x) x)) d) (sym (times-assoc c (power x (length cs)) x))
    ∙ ap (λ (y : ℕ). bit_xor y d) (sym (plus-times (times c (power x (length cs))) (value_at cs x) x))
