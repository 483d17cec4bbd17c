-- The shift register keeps the symbols that it has taken and its own contents a multiple of the generator polynomial.
use Rattle.std.proofs.Common.{◌≡◌, ◌<◌, ℕ, zero, suc, ◌+◌, List, [], ◌∷◌, ◌++◌, length, refl, ap, sym, ◌∙◌, arith}
use Rattle.std.specs.Prelude.{bit_xor, replicate}
use Rattle.std.specs.Int.Bits.{xor_assoc, xor_comm, xor_self}
use Rattle.tm_gf256.specs.Field.{times, power}
use Rattle.tm_gf256.proofs.Ring.{zero-times, times-lt, times-zero, times-assoc, times-comm, times-plus, plus-times, one-times, plus_apart, power-add}
use Rattle.tm_gf256.specs.Poly.{value_at}
use Rattle.tm_gf256.proofs.PolyLemmas.{value_at-push}
use Rattle.tm_rs_code.specs.Code.{AreElements}
use Rattle.tm_rs_code.specs.Register.{sums, multiple, shift}
use Rattle.tm_rs_code.proofs.DistanceLaw.{value_at-sums, AreElements-sums}

pub length-push : (xs : List ℕ) (y : ℕ) → length (xs ++ y ∷ []) ≡ suc (length xs)
length-push [] y = refl
length-push (x ∷ xs) y = ap suc (length-push xs y)

length-append : (xs ys : List ℕ) → length (xs ++ ys) ≡ length xs + length ys
length-append [] ys = omega arith
length-append (x ∷ xs) ys = ap suc (length-append xs ys) ∙ omega arith

pub value_at-append : (xs ys : List ℕ) (x : ℕ) → value_at (xs ++ ys) x
    ≡ bit_xor (times (value_at xs x) (power x (length ys))) (value_at ys x)
value_at-append [] ys x = sym (ap (λ (y : ℕ). bit_xor y (value_at ys x)) (zero-times (power x (length ys))))
value_at-append (c ∷ cs) ys x =
    ap (λ (n : ℕ). bit_xor (times c (power x n)) (value_at (cs ++ ys) x)) (length-append cs ys)
    ∙ ap (bit_xor (times c (power x (length cs + length ys)))) (value_at-append cs ys x)
    ∙ sym (xor_assoc (times c (power x (length cs + length ys))) (times (value_at cs x) (power x (length ys)))
    (value_at ys x))
    ∙ ap (λ (y : ℕ). bit_xor (bit_xor y (times (value_at cs x) (power x (length ys)))) (value_at ys x))
    (ap (times c) (power-add x (length cs) (length ys)) ∙ sym
    (times-assoc c (power x (length cs)) (power x (length ys))))
    ∙ ap (λ (y : ℕ). bit_xor y (value_at ys x)) (sym (plus-times (times c (power x (length cs))) (value_at cs x)
    (power x (length ys))))

-- a zero at the end
value_at-push_zero : (xs : List ℕ) (x : ℕ) → value_at (xs ++ 0 ∷ []) x ≡ times (value_at xs x) x
unfolding power
value_at-push_zero [] x = ap (λ (y : ℕ). bit_xor y 0) (zero-times 1) ∙ sym (zero-times x)
value_at-push_zero (c ∷ cs) x =
    ap (λ (n : ℕ). bit_xor (times c (power x n)) (value_at (cs ++ 0 ∷ []) x)) (length-push cs 0)
    ∙ ap (bit_xor (times c (times (power x (length cs)) x))) (value_at-push_zero cs x)
    ∙ ap (λ (y : ℕ). bit_xor y (times (value_at cs x) x)) (sym (times-assoc c (power x (length cs)) x))
    ∙ sym (plus-times (times c (power x (length cs))) (value_at cs x) x)

pub length-multiple : (q : ℕ) (cs : List ℕ) → length (multiple q cs) ≡ length cs
length-multiple q [] = refl
length-multiple q (c ∷ cs) = ap suc (length-multiple q cs)

value_at-multiple : (q : ℕ) (cs : List ℕ) (x : ℕ) → value_at (multiple q cs) x ≡ times q (value_at cs x)
value_at-multiple q [] x = sym (times-zero q)
value_at-multiple q (c ∷ cs) x =
    ap (λ (n : ℕ). bit_xor (times (times q c) (power x n)) (value_at (multiple q cs) x)) (length-multiple q cs)
    ∙ ap (bit_xor (times (times q c) (power x (length cs)))) (value_at-multiple q cs x)
    ∙ ap (λ (y : ℕ). bit_xor y (times q (value_at cs x))) (times-assoc q c (power x (length cs)))
    ∙ sym (times-plus q (times c (power x (length cs))) (value_at cs x))

-- (v r + d) (p r) + (s r + (d + f) (p r)) is (v (p r) + (f p + s)) r
register_step : (v r d p f s : ℕ) → bit_xor (times (bit_xor (times v r) d) (times p r))
    (bit_xor (times s r) (times (bit_xor d f) (times p r)))
    ≡ times (bit_xor (times v (times p r)) (bit_xor (times f p) s)) r
register_step v r d p f s =
    ap (λ (y : ℕ). bit_xor y (bit_xor (times s r) (times (bit_xor d f) (times p r))))
    (plus-times (times v r) d (times p r))
    ∙ ap (λ (y : ℕ). bit_xor (bit_xor (times (times v r) (times p r)) (times d (times p r))) (bit_xor (times s r) y))
    (plus-times d f (times p r))
    ∙ ap (bit_xor (bit_xor (times (times v r) (times p r)) (times d (times p r))))
    (xor_comm (times s r) (bit_xor (times d (times p r)) (times f (times p r)))
    ∙ xor_assoc (times d (times p r)) (times f (times p r)) (times s r))
    ∙ xor_assoc (times (times v r) (times p r)) (times d (times p r))
    (bit_xor (times d (times p r)) (bit_xor (times f (times p r)) (times s r)))
    ∙ ap (bit_xor (times (times v r) (times p r)))
    (sym (xor_assoc (times d (times p r)) (times d (times p r)) (bit_xor (times f (times p r)) (times s r)))
    ∙ ap (λ (y : ℕ). bit_xor y (bit_xor (times f (times p r)) (times s r))) (xor_self (times d (times p r))))
    ∙ ap (λ (y : ℕ). bit_xor y (bit_xor (times f (times p r)) (times s r)))
    (times-assoc v r (times p r) ∙ ap (times v) (times-comm r (times p r)) ∙ sym (times-assoc v (times p r) r))
    ∙ ap (λ (y : ℕ). bit_xor (times (times v (times p r)) r) (bit_xor y (times s r))) (sym (times-assoc f p r))
    ∙ sym (plus-times (times v (times p r)) (bit_xor (times f p) s) r
    ∙ ap (bit_xor (times (times v (times p r)) r)) (plus-times (times f p) s r))

length-sums' : (xs ys : List ℕ) → length xs ≡ length ys → length (sums xs ys) ≡ length ys
length-sums' [] [] e = refl
length-sums' [] (y ∷ ys) e = absurd (omega arith)
length-sums' (x ∷ xs) [] e = absurd (omega arith)
length-sums' (x ∷ xs) (y ∷ ys) e = ap suc (length-sums' xs ys (omega arith))

pub length-shift : (g : List ℕ) (d : ℕ) (register : List ℕ) → length g ≡ length register
    → length (shift g d register) ≡ length register
length-shift g d [] e = refl
length-shift g d (r ∷ rs) e =
    length-sums' (rs ++ 0 ∷ []) (multiple (bit_xor d r) g) (length-push rs 0 ∙ sym e
    ∙ sym (length-multiple (bit_xor d r) g)) ∙ length-multiple (bit_xor d r) g ∙ e

-- a root stays one over a step of the register
shift_keeps : (g : List ℕ) (x : ℕ) → value_at (1 ∷ g) x ≡ 0 → (u : List ℕ) (d r : ℕ) (rs : List ℕ)
    → length g ≡ suc (length rs)
    → value_at (u ++ r ∷ rs) x ≡ 0 → d < 256 → value_at ((u ++ d ∷ []) ++ shift g d (r ∷ rs)) x ≡ 0
unfolding power
shift_keeps g x z u d r rs len h small =
    let same : length (rs ++ 0 ∷ []) ≡ length (multiple (bit_xor d r) g) = length-push rs 0 ∙ sym len
    ∙ sym (length-multiple (bit_xor d r) g) in
    let gx : value_at g x ≡ times (power x (length rs)) x =
    sym (plus_apart (times 1 (power x (length g))) (value_at g x) z) ∙ ap (λ (n : ℕ). times 1 (power x n)) len
    ∙ one-times (times (power x (length rs)) x) (times-lt (power x (length rs)) x) in
    let new : value_at (shift g d (r ∷ rs)) x ≡ bit_xor (times (value_at rs x) x)
    (times (bit_xor d r) (times (power x (length rs)) x)) =
    value_at-sums (rs ++ 0 ∷ []) (multiple (bit_xor d r) g) x same
    ∙ ap (λ (y : ℕ). bit_xor y (value_at (multiple (bit_xor d r) g) x)) (value_at-push_zero rs x)
    ∙ ap (bit_xor (times (value_at rs x) x)) (value_at-multiple (bit_xor d r) g x ∙ ap (times (bit_xor d r)) gx) in
    let prefix : value_at (u ++ d ∷ []) x ≡ bit_xor (times (value_at u x) x) d = value_at-push u d x small in
    value_at-append (u ++ d ∷ []) (shift g d (r ∷ rs)) x
    ∙ ap (λ (n : ℕ). bit_xor (times (value_at (u ++ d ∷ []) x) (power x n)) (value_at (shift g d (r ∷ rs)) x))
    (length-shift g d (r ∷ rs) len)
    ∙ ap (λ (y : ℕ). bit_xor (times y (times (power x (length rs)) x)) (value_at (shift g d (r ∷ rs)) x)) prefix
    ∙ ap (bit_xor (times (bit_xor (times (value_at u x) x) d) (times (power x (length rs)) x))) new
    ∙ register_step (value_at u x) x d (power x (length rs)) r (value_at rs x)
    ∙ ap (λ (y : ℕ). times y x) (sym (value_at-append u (r ∷ rs) x) ∙ h) ∙ zero-times x

pub register_keeps : (g : List ℕ) (x : ℕ) → value_at (1 ∷ g) x ≡ 0 → (u : List ℕ) (d : ℕ) (register : List ℕ)
    → length g ≡ length register → 0 < length register
    → value_at (u ++ register) x ≡ 0 → d < 256 → value_at ((u ++ d ∷ []) ++ shift g d register) x ≡ 0
register_keeps g x z u d [] e some h small = absurd (omega arith)
register_keeps g x z u d (r ∷ rs) e some h small = shift_keeps g x z u d r rs e h small

AreElements-push_zero : (xs : List ℕ) → AreElements xs → AreElements (xs ++ 0 ∷ [])
AreElements-push_zero [] h = (omega arith, tt)
AreElements-push_zero (x ∷ xs) h = (h.0, AreElements-push_zero xs h.1)

AreElements-multiple : (q : ℕ) (cs : List ℕ) → AreElements (multiple q cs)
AreElements-multiple q [] = tt
AreElements-multiple q (c ∷ cs) = (times-lt q c, AreElements-multiple q cs)

pub AreElements-shift : (g : List ℕ) (d : ℕ) (register : List ℕ) → AreElements register
    → AreElements (shift g d register)
AreElements-shift g d [] h = tt
AreElements-shift g d (r ∷ rs) h =
    AreElements-sums (rs ++ 0 ∷ []) (multiple (bit_xor d r) g) (AreElements-push_zero rs h.1)
    (AreElements-multiple (bit_xor d r) g)

-- a register of zeros has the value 0
pub value_at-zeros : (n x : ℕ) → value_at (replicate n 0) x ≡ 0
value_at-zeros zero x = refl
value_at-zeros (suc n) x =
    ap (λ (v : ℕ). bit_xor v (value_at (replicate n 0) x)) (zero-times (power x (length (replicate n 0))))
    ∙ value_at-zeros n x
