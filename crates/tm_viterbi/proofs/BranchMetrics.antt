-- The four branch metrics of a step.
use Rattle.std.proofs.Common.{◌∙◌, sym, ap, eqb, ◌≡◌, ℕ, ◌+◌, ◌-◌, ◌*◌, ◌<◌, cond, arith, length, List, [], ◌∷◌, ◌++◌, zero, suc, refl, Bool, true, false, get_or, take, ◌%◌}
use Rattle.std.specs.Prelude.{bit_and, bit_xor}
use Rattle.std.specs.Int.Bits.{and_zero_r}
use Rattle.std.proofs.lemmas.Bool.{eqb-true, agree_below, agree_below_at}
use Rattle.tm_conv.specs.declared.rates.Rate.TheVariants.{R12}
use Rattle.tm_viterbi.specs.Totals.{AreBranchMetrics}
use Rattle.tm_conv.specs.Path.{sent_c2, keeps_c1, keeps_c2, c1_pattern, c2_pattern, sent}
use Rattle.tm_conv.specs.Cost.{distance, cost}

pub cost_of_pair : (k l : Bool) (c d : ℕ) (octets : List ℕ) → length octets ≡ cond k 1 0 + cond l 1 0
    → cost (cond k (c ∷ []) [] ++ cond l (d ∷ []) []) octets ≡ cond k (distance c (get_or octets 0 0)) 0 + cond l
    (distance d (get_or octets (length octets - 1) 0)) 0
cost_of_pair true true c d [] e = absurd (let h : 0 ≡ 1 + 1 = e in omega arith)
cost_of_pair true true c d (x ∷ []) e = absurd (let h : 1 ≡ 1 + 1 = e in omega arith)
cost_of_pair true true c d (x ∷ y ∷ []) e = omega arith
cost_of_pair true true c d (x ∷ y ∷ z ∷ zs) e = absurd (let h : suc (suc (suc (length zs))) ≡ 1 + 1 = e in omega arith)
cost_of_pair true false c d [] e = absurd (let h : 0 ≡ 1 + 0 = e in omega arith)
cost_of_pair true false c d (x ∷ []) e = refl
cost_of_pair true false c d (x ∷ y ∷ ys) e = absurd (let h : suc (suc (length ys)) ≡ 1 + 0 = e in omega arith)
cost_of_pair false true c d [] e = absurd (let h : 0 ≡ 0 + 1 = e in omega arith)
cost_of_pair false true c d (x ∷ []) e = omega arith
cost_of_pair false true c d (x ∷ y ∷ ys) e = absurd (let h : suc (suc (length ys)) ≡ 0 + 1 = e in omega arith)
cost_of_pair false false c d [] e = refl
cost_of_pair false false c d (x ∷ xs) e = refl

pub at_pair : (f g : ℕ → ℕ) (a b x y : ℕ) → a ≡ f 0 → b ≡ f 1 → x ≡ g 0 → y ≡ g 1 → (c d : ℕ) → c < 2 → d < 2
    → get_or ((a + x) ∷ (a + y) ∷ (b + x) ∷ (b + y) ∷ []) (2 * c + d) 0 ≡ f c + g d
at_pair f g a b x y ea eb ex ey zero zero cl dl = omega (arith, ea, ex)
at_pair f g a b x y ea eb ex ey zero (suc zero) cl dl = omega (arith, ea, ey)
at_pair f g a b x y ea eb ex ey (suc zero) zero cl dl = omega (arith, eb, ex)
at_pair f g a b x y ea eb ex ey (suc zero) (suc zero) cl dl = omega (arith, eb, ey)
at_pair f g a b x y ea eb ex ey zero (suc (suc d)) cl dl = absurd (omega arith)
at_pair f g a b x y ea eb ex ey (suc zero) (suc (suc d)) cl dl = absurd (omega arith)
at_pair f g a b x y ea eb ex ey (suc (suc c)) d cl dl = absurd (omega arith)

-- ---- octets that are xored

kept_each : agree_below (λ x. eqb (bit_xor x 0) x) (λ x. true) 256 ≡ true
kept_each = refl

complemented_each : agree_below (λ x. eqb (bit_xor x 255) (255 - x)) (λ x. true) 256 ≡ true
complemented_each = refl

xor_none : (x : ℕ) → x < 256 → bit_xor x 0 ≡ x
xor_none x lt = eqb-true _ _ (agree_below_at (λ x. eqb (bit_xor x 0) x) (λ x. true) 256 x kept_each lt)

xor_all : (x : ℕ) → x < 256 → bit_xor x 255 ≡ 255 - x
xor_all x lt = eqb-true _ _ (agree_below_at (λ x. eqb (bit_xor x 255) (255 - x)) (λ x. true) 256 x complemented_each lt)

near_second : (invert : Bool) (y : ℕ) → y < 256 → bit_xor y (cond invert 255 0) ≡ distance (sent_c2 invert 0) y
near_second true y lt = xor_all y lt
near_second false y lt = xor_none y lt

far_second : (invert : Bool) (y : ℕ) → y < 256 → bit_xor y (cond invert 0 255) ≡ distance (sent_c2 invert 1) y
far_second true y lt = xor_none y lt
far_second false y lt = xor_all y lt

-- both sums are sent at rate 1/2
half_keeps : (t : ℕ) → (keeps_c1 R12 t ≡ true) × (keeps_c2 R12 t ≡ true)
half_keeps t =
    let e : t % 1 ≡ 0 = omega arith in
    (ap (λ k. eqb (get_or (c1_pattern R12) k 0) 1) e, ap (λ k. eqb (get_or (c2_pattern R12) k 0) 1) e)

half_cost : (invert : Bool) (t c d x y : ℕ)
    → cost (sent R12 invert t c d) (x ∷ y ∷ []) ≡ distance c x + distance (sent_c2 invert d) y
half_cost invert t c d x y =
    ap (λ k. cost (cond k (c ∷ []) [] ++ cond (keeps_c2 R12 t) (sent_c2 invert d ∷ []) []) (x ∷ y ∷ []))
    (half_keeps t).0
    ∙ ap (λ k. cost ((c ∷ []) ++ cond k (sent_c2 invert d ∷ []) []) (x ∷ y ∷ [])) (half_keeps t).1
    ∙ omega arith

pub xored_metrics : (invert : Bool) (t x y : ℕ) → x < 256 → y < 256
    → AreBranchMetrics R12 invert t (x ∷ y ∷ [])
    ((bit_xor x 0 + bit_xor y (cond invert 255 0)) ∷ (bit_xor x 0 + bit_xor y
    (cond invert 0 255)) ∷ (bit_xor x 255 + bit_xor y (cond invert 255 0)) ∷ (bit_xor x 255 + bit_xor y
    (cond invert 0 255)) ∷ [])
xored_metrics invert t x y xl yl c d cl dl =
    at_pair (λ c. distance c x) (λ d. distance (sent_c2 invert d) y) _ _ _ _ (xor_none x xl) (xor_all x xl)
    (near_second invert y yl) (far_second invert y yl) c d cl dl
    ∙ sym (half_cost invert t c d x y)

-- ---- a lane of a step's first sum, of which x is the octet, and of its second, of which z is, where they are sent

abbrev pub lane : ℕ → ℕ → Bool → ℕ
lane x mask is_sent = bit_and (bit_xor x mask) (cond is_sent 255 0)

kept_lane : (x mask v : ℕ) (is_sent : Bool) → bit_xor x mask ≡ v → v < 256 → lane x mask is_sent ≡ cond is_sent v 0
kept_lane x mask v true e lt =
    ap (λ w. bit_and w 255) e
    ∙ eqb-true _ _ (agree_below_at (λ w. eqb (bit_and w 255) w) (λ w. true) 256 v refl lt)
kept_lane x mask v false e lt = and_zero_r (bit_xor x mask)

near_small : (invert : Bool) (z : ℕ) → z < 256 → distance (sent_c2 invert 0) z < 256
near_small true z lt = omega arith
near_small false z lt = omega arith

far_small : (invert : Bool) (z : ℕ) → z < 256 → distance (sent_c2 invert 1) z < 256
far_small true z lt = omega arith
far_small false z lt = omega arith

either_small : (k : Bool) (x y : ℕ) → x < 256 → y < 256 → cond k y x < 256
either_small true x y xl yl = yl
either_small false x y xl yl = xl

cost_of_step : (k l : Bool) (c d x y : ℕ) (zs : List ℕ)
    → cost (cond k (c ∷ []) [] ++ cond l (d ∷ []) []) (take (cond k 1 0 + cond l 1 0) (x ∷ y ∷ zs))
    ≡ cond k (distance c x) 0 + cond l (distance d (cond k y x)) 0
cost_of_step true true c d x y zs = omega arith
cost_of_step true false c d x y zs = omega arith
cost_of_step false true c d x y zs = omega arith
cost_of_step false false c d x y zs = refl

-- the four sums of lanes are the step's branch metrics
pub lanes_of_step : (k l invert : Bool) (x y : ℕ) (zs : List ℕ) → x < 256 → y < 256 → (c d : ℕ) → c < 2 → d < 2
    → get_or ((lane x 0 k + lane (cond k y x) (cond invert 255 0) l)
    ∷ (lane x 0 k + lane (cond k y x) (cond invert 0 255) l)
    ∷ (lane x 255 k + lane (cond k y x) (cond invert 255 0) l)
    ∷ (lane x 255 k + lane (cond k y x) (cond invert 0 255) l) ∷ []) (2 * c + d) 0
    ≡ cost (cond k (c ∷ []) [] ++ cond l (sent_c2 invert d ∷ []) []) (take (cond k 1 0 + cond l 1 0) (x ∷ y ∷ zs))
lanes_of_step k l invert x y zs xl yl c d cl dl =
    let z = cond k y x in
    let zl = either_small k x y xl yl in
    at_pair (λ v. cond k (distance v x) 0) (λ v. cond l (distance (sent_c2 invert v) z) 0) _ _ _ _
    (kept_lane x 0 x k (xor_none x xl) xl) (kept_lane x 255 (255 - x) k (xor_all x xl) (omega arith))
    (kept_lane z (cond invert 255 0) (distance (sent_c2 invert 0) z) l (near_second invert z zl)
    (near_small invert z zl))
    (kept_lane z (cond invert 0 255) (distance (sent_c2 invert 1) z) l (far_second invert z zl)
    (far_small invert z zl))
    c d cl dl
    ∙ sym (cost_of_step k l c (sent_c2 invert d) x y zs)
