-- A monic polynomial has at most as many roots as its degree, and with that many it is their product.
use Rattle.std.proofs.Common.{◌≡◌, ◌<◌, ◌≤◌, ◌≢◌, ℕ, suc, List, [], ◌∷◌, length, refl, ap, sym, ◌∙◌, arith, subst}
use Rattle.std.specs.Prelude.{bit_xor}
use Rattle.std.specs.Int.Bits.{xor_zero_r, xor_assoc, xor_comm, xor_self}
use Rattle.tm_gf256.specs.Field.{times, power}
use Rattle.tm_gf256.proofs.Ring.{times-lt, times-comm, times-assoc, times-plus, plus-times, times-zero, one-times, times-one, times-cancel, plus_apart, plus-lt}
use Rattle.tm_gf256.specs.Poly.{value_at}
use Rattle.tm_rs_code.proofs.Vanish.{swap_factors}
use Rattle.tm_rs_code.specs.Code.{AreElements}
use Rattle.tm_rs_code.specs.Pattern.{carry}

pub value_at-lt : (cs : List ℕ) (x : ℕ) → value_at cs x < 256
value_at-lt [] x = omega arith
value_at-lt (c ∷ cs) x =
    plus-lt (times c (power x (length cs))) (value_at cs x) (times-lt c (power x (length cs))) (value_at-lt cs x)

pub length-carry : (r a : ℕ) (qs : List ℕ) → length (carry r a qs) ≡ suc (length qs)
length-carry r a [] = refl
length-carry r a (q ∷ qs) = ap suc (length-carry r q qs)

-- (x + r) (a p + v) is a (p x) + ((r a) p + (x + r) v)
linear_step : (x r a p v : ℕ) → times (bit_xor x r) (bit_xor (times a p) v)
    ≡ bit_xor (times a (times p x)) (bit_xor (times (times r a) p) (times (bit_xor x r) v))
linear_step x r a p v =
    times-plus (bit_xor x r) (times a p) v
    ∙ ap (λ (y : ℕ). bit_xor y (times (bit_xor x r) v)) (plus-times x r (times a p))
    ∙ xor_assoc (times x (times a p)) (times r (times a p)) (times (bit_xor x r) v)
    ∙ ap (λ (y : ℕ). bit_xor y (bit_xor (times r (times a p)) (times (bit_xor x r) v)))
    (swap_factors x a p ∙ ap (times a) (times-comm x p))
    ∙ ap (λ (y : ℕ). bit_xor (times a (times p x)) (bit_xor y (times (bit_xor x r) v))) (sym (times-assoc r a p))

pub value_at-carry : (r a : ℕ) (qs : List ℕ) (x : ℕ) → value_at (a ∷ carry r a qs) x
    ≡ times (bit_xor x r) (value_at (a ∷ qs) x)
unfolding power
value_at-carry r a [] x =
    ap (bit_xor (times a (times 1 x))) (ap (bit_xor (times (times r a) 1)) (sym (times-zero (bit_xor x r))))
    ∙ sym (linear_step x r a 1 0)
value_at-carry r a (q ∷ qs) x =
    ap (λ (n : ℕ). bit_xor (times a (power x (suc n))) (bit_xor (times (bit_xor q (times r a)) (power x n))
    (value_at (carry r q qs) x))) (length-carry r q qs)
    ∙ ap (λ (y : ℕ). bit_xor (times a (times (power x (suc (length qs))) x)) y)
    (ap (λ (y : ℕ). bit_xor y (value_at (carry r q qs) x)) (plus-times q (times r a) (power x (suc (length qs)))
    ∙ xor_comm (times q (power x (suc (length qs)))) (times (times r a) (power x (suc (length qs)))))
    ∙ xor_assoc (times (times r a) (power x (suc (length qs)))) (times q (power x (suc (length qs))))
    (value_at (carry r q qs) x)
    ∙ ap (bit_xor (times (times r a) (power x (suc (length qs)))))
    (ap (λ (n : ℕ). bit_xor (times q (power x n)) (value_at (carry r q qs) x)) (sym (length-carry r q qs))
    ∙ value_at-carry r q qs x))
    ∙ sym (linear_step x r a (power x (suc (length qs))) (value_at (q ∷ qs) x))

-- what is divided by x + r, where r is a root
pub record Quotient (r a : ℕ) (cs : List ℕ) : Type 0 where
  pub rest : List ℕ
  pub is : cs ≡ carry r a rest
  pub elements : AreElements rest

cancel_last : (a b c : ℕ) → bit_xor (bit_xor a b) b ≡ a
cancel_last a b c = xor_assoc a b b ∙ ap (bit_xor a) (xor_self b) ∙ xor_zero_r a

pub quotient : (r a c : ℕ) (cs : List ℕ) → AreElements (c ∷ cs) → value_at (a ∷ c ∷ cs) r ≡ 0 → Quotient r a (c ∷ cs)
unfolding power
quotient r a c [] h z = record {
  rest = [];
  is = ap (λ (y : ℕ). y ∷ []) (
      sym (times-one c h.0) ∙ sym (xor_zero_r (times c 1))
      ∙ sym (plus_apart (times a (times 1 r)) (bit_xor (times c 1) 0) z)
      ∙ times-comm a (times 1 r) ∙ ap (λ (y : ℕ). times y a) (times-comm 1 r) ∙ times-assoc r 1 a ∙ swap_factors r 1 a
      ∙ one-times (times r a) (times-lt r a));
  elements = tt;
}
quotient r a c (d ∷ ds) h z =
    let next : Quotient r (bit_xor c (times r a)) (d ∷ ds) =
    quotient r (bit_xor c (times r a)) d ds h.1
    (ap (λ (y : ℕ). bit_xor y (value_at (d ∷ ds) r)) (plus-times c (times r a) (power r (suc (length ds)))
    ∙ xor_comm (times c (power r (suc (length ds)))) (times (times r a) (power r (suc (length ds)))))
    ∙ xor_assoc (times (times r a) (power r (suc (length ds)))) (times c (power r (suc (length ds))))
    (value_at (d ∷ ds) r)
    ∙ ap (λ (y : ℕ). bit_xor y (value_at (c ∷ d ∷ ds) r))
    (times-assoc r a (power r (suc (length ds))) ∙ swap_factors r a (power r (suc (length ds)))
    ∙ ap (times a) (times-comm r (power r (suc (length ds)))))
    ∙ z) in
    record {
      rest = bit_xor c (times r a) ∷ next.rest;
      is =
          ap (λ (ys : List ℕ). c ∷ ys) next.is
          ∙ ap (λ (y : ℕ). y ∷ carry r (bit_xor c (times r a)) next.rest) (sym (cancel_last c (times r a) 0));
      elements = (plus-lt c (times r a) h.0 (times-lt r a), next.elements);
    }

-- ---- roots

abbrev pub AreRoots : List ℕ → List ℕ → Type 0
AreRoots cs [] = Unit {0}
AreRoots cs (r ∷ rs) = (value_at (1 ∷ cs) r ≡ 0) × AreRoots cs rs

abbrev pub AllOther : ℕ → List ℕ → Type 0
AllOther r [] = Unit {0}
AllOther r (s ∷ ss) = (s ≢ r) × AllOther r ss

abbrev pub AllDifferent : List ℕ → Type 0
AllDifferent [] = Unit {0}
AllDifferent (r ∷ rs) = AllOther r rs × AllDifferent rs

-- the product of the x + r, without its first coefficient 1
abbrev pub product_of : List ℕ → List ℕ
product_of [] = []
product_of (r ∷ rs) = carry r 1 (product_of rs)

pub length-product_of : (rs : List ℕ) → length (product_of rs) ≡ length rs
length-product_of [] = refl
length-product_of (r ∷ rs) = length-carry r 1 (product_of rs) ∙ ap suc (length-product_of rs)

pub AreRoots-quotient : (r : ℕ) (qs rs : List ℕ) → r < 256 → AreElements rs → AllOther r rs
    → AreRoots (carry r 1 qs) rs → AreRoots qs rs
AreRoots-quotient r qs [] h el o z = tt
AreRoots-quotient r qs (s ∷ ss) h el o z = (
  times-cancel (bit_xor s r) (value_at (1 ∷ qs) s) (plus-lt s r el.0 h) (value_at-lt (1 ∷ qs) s)
      (λ e. o.0 (plus_apart s r e))
      (sym (value_at-carry r 1 qs s) ∙ z.0),
  AreRoots-quotient r qs ss h el.1 o.1 z.1,
)

not_both : (n : ℕ) → n ≡ 1 → n ≡ 0 → ⊥
not_both n e f = omega arith

-- no root is left where the degree is 0
one_is_not_zero : (r : ℕ) → value_at (1 ∷ []) r ≡ 0 → ⊥
unfolding power
one_is_not_zero r z = not_both (bit_xor (times 1 1) 0) (xor_zero_r (times 1 1) ∙ one-times 1 (omega arith)) z

pub at_most_degree : (rs cs : List ℕ) → AreElements rs → AllDifferent rs → AreElements cs → AreRoots cs rs
    → (length rs ≤ length cs) × (length rs ≡ length cs → cs ≡ product_of rs)
at_most_degree [] [] er d el z = (omega arith, λ e. refl)
at_most_degree [] (c ∷ cs) er d el z = (omega arith, λ e. absurd (omega arith))
at_most_degree (r ∷ rs) [] er d el z = absurd (one_is_not_zero r z.0)
at_most_degree (r ∷ rs) (c ∷ cs) er d el z =
    let q : Quotient r 1 (c ∷ cs) = quotient r 1 c cs el z.0 in
    let len : length (c ∷ cs) ≡ suc (length q.rest) = ap length q.is ∙ length-carry r 1 q.rest in
    let below = at_most_degree rs q.rest er.1 d.1 q.elements
    (AreRoots-quotient r q.rest rs er.0 er.1 d.0 (subst (λ (y : List ℕ). AreRoots y rs) q.is z.1)) in
    (omega (arith, below.0, len), λ e. q.is ∙ ap (carry r 1) (below.1 (omega (arith, len, e))))
