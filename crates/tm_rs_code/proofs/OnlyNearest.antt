-- The nearest codeword is the only one, with erased places and without.
use Rattle.std.proofs.Common.{◌≡◌, ◌≤◌, ◌+◌, ℕ, suc, List, [], ◌∷◌, length, refl, ap, sym, ◌∙◌, arith, inl, inr, eqb, cond, true, false, Bool}
use Rattle.std.proofs.lemmas.Bool.{cases_eq}
use Rattle.tm_rs_code.specs.Code.{distance}
use Rattle.tm_rs_code.specs.Nearest.{IsCodewordOf, IsNearest, Nearest}
use Rattle.tm_rs_code.specs.Nearest.Nearest.{Fixed, Beyond}
use Rattle.tm_rs_code.specs.Erasures.{IsNearestErased, IsWithin, NearestErased, count_erased, outside, inside}
use Rattle.tm_rs_code.specs.Erasures.NearestErased.{Fixed as FixedErased, Beyond as BeyondErased}
use Rattle.tm_rs_code.proofs.DistanceLaw.{distance_law, same_of_distance}
use Rattle.tm_rs_code.proofs.Nearest.{triangle, distance-comm, distance-self, nearest_unique}

same_fixed : (c c' : List ℕ) (d d' : ℕ) → c ≡ c' → d ≡ d' → Fixed c d ≡ Fixed c' d'
same_fixed c c' d d' e f = ap (λ (y : List ℕ). Fixed y d) e ∙ ap (λ (y : ℕ). Fixed c' y) f

pub nearest_only : (e bound : ℕ) (w : List ℕ) (a b : Nearest) → bound ≤ e → length w ≤ 255 → IsNearest e bound w a
    → IsNearest e bound w b → a ≡ b
nearest_only e bound w (Fixed c d) (Fixed c' d') within short h l =
    let same : c ≡ c' = nearest_unique e (length w) w c c' short refl h.0.size l.0.size h.0.elements l.0.elements
    h.0.codeword l.0.codeword
    (omega (arith, h.1, h.2)) (omega (arith, l.1, l.2)) in
    same_fixed c c' d d' same (sym h.1 ∙ ap (λ (y : List ℕ). distance y w) same ∙ l.1)
nearest_only e bound w (Fixed c d) Beyond within short h l = absurd (omega (arith, l c h.0, h.1, h.2))
nearest_only e bound w Beyond (Fixed c d) within short h l = absurd (omega (arith, h c l.0, l.1, l.2))
nearest_only e bound w Beyond Beyond within short h l = refl

-- ---- erased places

at_most : (x : Bool) → cond x 0 1 ≤ 1
at_most true = omega arith
at_most false = omega arith

-- two words differ in at most the erased places and those where they differ outside
pub distance_outside : (flags : List Bool) (c d : List ℕ) → length c ≡ length d → length flags ≡ length c
    → distance c d ≤ distance (outside flags c) (outside flags d) + count_erased flags
distance_outside [] [] d e f = omega arith
distance_outside [] (x ∷ xs) d e f = absurd (omega arith)
distance_outside (b ∷ bs) [] d e f = absurd (omega arith)
distance_outside (b ∷ bs) (x ∷ xs) [] e f = absurd (omega arith)
distance_outside (true ∷ bs) (x ∷ xs) (y ∷ ys) e f =
    omega (arith, distance_outside bs xs ys (omega arith) (omega arith), at_most (eqb x y))
distance_outside (false ∷ bs) (x ∷ xs) (y ∷ ys) e f =
    omega (arith, distance_outside bs xs ys (omega arith) (omega arith))

pub length-outside : (flags : List Bool) (c : List ℕ) → length (outside flags c) ≡ length c
length-outside [] c = refl
length-outside (b ∷ bs) [] = refl
length-outside (b ∷ bs) (x ∷ xs) = ap suc (length-outside bs xs)

within_only : (e bound : ℕ) (flags : List Bool) (w c d : List ℕ) → length flags ≡ length w → length w ≤ 255
    → IsCodewordOf e (length w) c → IsCodewordOf e (length w) d → IsWithin e bound flags w c
    → IsWithin e bound flags w d → c ≡ d
within_only e bound flags w c d lf short hc hd nc nd =
    let oc = length-outside flags c in
    let od = length-outside flags d in
    let ow = length-outside flags w in
    elim (cases_eq (distance c d) 0) [
      | inl z ↦ same_of_distance c d (hc.size ∙ sym hd.size) z
      | inr ne ↦ absurd (omega (
        arith,
        distance_law e c d hc.elements hd.elements (hc.size ∙ sym hd.size)
            (omega (arith, hc.size)) hc.codeword hd.codeword
            (λ same. ne (ap (distance c) (sym same) ∙ distance-self c)),
        distance_outside flags c d (hc.size ∙ sym hd.size) (lf ∙ sym hc.size),
        triangle (outside flags c) (outside flags w) (outside flags d) (oc ∙ hc.size ∙ sym ow)
            (ow ∙ sym hd.size ∙ sym od),
        distance-comm (outside flags w) (outside flags d) (ow ∙ sym hd.size ∙ sym od),
        nc.few,
        nd.few,
      ))
    ]

same_erased : (c c' : List ℕ) (a a' b b' : ℕ) → c ≡ c' → a ≡ a' → b ≡ b' → FixedErased c a b ≡ FixedErased c' a' b'
same_erased c c' a a' b b' e f g =
    ap (λ (y : List ℕ). FixedErased y a b) e ∙ ap (λ (y : ℕ). FixedErased c' y b) f
    ∙ ap (λ (y : ℕ). FixedErased c' a' y) g

pub nearest_erased_only : (e bound : ℕ) (flags : List Bool) (w : List ℕ) (p q : NearestErased)
    → length flags ≡ length w → length w ≤ 255
    → IsNearestErased e bound flags w p → IsNearestErased e bound flags w q → p ≡ q
nearest_erased_only e bound flags w (FixedErased c a b) (FixedErased c' a' b') lf short h l =
    let same : c ≡ c' = within_only e bound flags w c c' lf short h.0 l.0 h.1 l.1 in
    same_erased c c' a a' b b' same
    (sym h.2 ∙ ap (λ (y : List ℕ). distance (outside flags y) (outside flags w)) same ∙ l.2)
    (sym h.3 ∙ ap (λ (y : List ℕ). distance (inside flags y) (inside flags w)) same ∙ l.3)
nearest_erased_only e bound flags w (FixedErased c a b) BeyondErased lf short h l = absurd (l c h.0 h.1)
nearest_erased_only e bound flags w BeyondErased (FixedErased c a b) lf short h l = absurd (h c l.0 l.1)
nearest_erased_only e bound flags w BeyondErased BeyondErased lf short h l = refl
