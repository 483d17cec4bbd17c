-- Two steps' branch metrics are taken in the same way at each period of the puncture pattern.
use Rattle.std.proofs.Common.{◌≡◌, ℕ, ◌+◌, ◌%◌, ◌∙◌, ap, arith, get_or, eqb, cond, Bool, List, ◌<◌}
use Rattle.tm_conv.specs.declared.rates.Rate.{Rate}
use Rattle.tm_conv.specs.declared.rates.Rate.TheVariants.{R12, R23, R34, R56, R78}
use Rattle.tm_conv.specs.Path.{c1_pattern, c2_pattern, keeps_c1, keeps_c2, period}
use Rattle.tm_viterbi.specs.StepPairs.{four_times, IsStepPair}
use Rattle.tm_viterbi.specs.declared.step_pairs.StepPair.{StepPair}

same_kept : (rate : Rate) (s t : ℕ) → s % period rate ≡ t % period rate
    → (keeps_c1 rate s ≡ keeps_c1 rate t) × (keeps_c2 rate s ≡ keeps_c2 rate t)
same_kept R12 s t e =
    (ap (λ k. eqb (get_or (c1_pattern R12) k 0) 1) e, ap (λ k. eqb (get_or (c2_pattern R12) k 0) 1) e)
same_kept R23 s t e =
    (ap (λ k. eqb (get_or (c1_pattern R23) k 0) 1) e, ap (λ k. eqb (get_or (c2_pattern R23) k 0) 1) e)
same_kept R34 s t e =
    (ap (λ k. eqb (get_or (c1_pattern R34) k 0) 1) e, ap (λ k. eqb (get_or (c2_pattern R34) k 0) 1) e)
same_kept R56 s t e =
    (ap (λ k. eqb (get_or (c1_pattern R56) k 0) 1) e, ap (λ k. eqb (get_or (c2_pattern R56) k 0) 1) e)
same_kept R78 s t e =
    (ap (λ k. eqb (get_or (c1_pattern R78) k 0) 1) e, ap (λ k. eqb (get_or (c2_pattern R78) k 0) 1) e)

-- as many steps later too
pub same_later : (rate : Rate) (s t n : ℕ) → s % period rate ≡ t % period rate
    → (s + n) % period rate ≡ (t + n) % period rate
same_later R12 s t n e = let h : s % 1 ≡ t % 1 = e in let goal : (s + n) % 1 ≡ (t + n) % 1 = omega arith in goal
same_later R23 s t n e = let h : s % 2 ≡ t % 2 = e in let goal : (s + n) % 2 ≡ (t + n) % 2 = omega arith in goal
same_later R34 s t n e = let h : s % 3 ≡ t % 3 = e in let goal : (s + n) % 3 ≡ (t + n) % 3 = omega arith in goal
same_later R56 s t n e = let h : s % 5 ≡ t % 5 = e in let goal : (s + n) % 5 ≡ (t + n) % 5 = omega arith in goal
same_later R78 s t n e = let h : s % 7 ≡ t % 7 = e in let goal : (s + n) % 7 ≡ (t + n) % 7 = omega arith in goal

-- a step's place in the pattern, and that place
pub same_position : (rate : Rate) (t : ℕ) → t % period rate % period rate ≡ t % period rate
same_position R12 t = let goal : t % 1 % 1 ≡ t % 1 = omega arith in goal
same_position R23 t = let goal : t % 2 % 2 ≡ t % 2 = omega arith in goal
same_position R34 t = let goal : t % 3 % 3 ≡ t % 3 = omega arith in goal
same_position R56 t = let goal : t % 5 % 5 ≡ t % 5 = omega arith in goal
same_position R78 t = let goal : t % 7 % 7 ≡ t % 7 = omega arith in goal

pub position_small : (rate : Rate) (t : ℕ) → (t % period rate < period rate) × (t % period rate < 7)
position_small R12 t = let goal : (t % 1 < 1) × (t % 1 < 7) = (omega arith, omega arith) in goal
position_small R23 t = let goal : (t % 2 < 2) × (t % 2 < 7) = (omega arith, omega arith) in goal
position_small R34 t = let goal : (t % 3 < 3) × (t % 3 < 7) = (omega arith, omega arith) in goal
position_small R56 t = let goal : (t % 5 < 5) × (t % 5 < 7) = (omega arith, omega arith) in goal
position_small R78 t = let goal : (t % 7 < 7) × (t % 7 < 7) = (omega arith, omega arith) in goal

abbrev places_by : Bool → Bool → Bool → List ℕ
places_by a b c =
    let first = cond a 1 0 + cond b 1 0 in
    four_times 0 (cond a 1 0) first (first + cond c 1 0)

abbrev sent_by : Bool → Bool → Bool → Bool → List ℕ
sent_by a b c d = four_times (cond a 255 0) (cond b 255 0) (cond c 255 0) (cond d 255 0)

abbrev size_by : Bool → Bool → Bool → Bool → ℕ
size_by a b c d = (cond a 1 0 + cond b 1 0) + (cond c 1 0 + cond d 1 0)

same_by : {A : Type 0} (f : Bool → Bool → Bool → Bool → A) (a b c d e g h i : Bool) → a ≡ e → b ≡ g → c ≡ h → d ≡ i
    → f a b c d ≡ f e g h i
same_by f a b c d e g h i p q r s =
    ap (λ v. f v b c d) p ∙ ap (λ v. f e v c d) q ∙ ap (λ v. f e g v d) r ∙ ap (λ v. f e g h v) s

-- the pair at one step is that at another in the same place of the pattern
pub IsStepPair-at : (rate : Rate) (invert : Bool) (s t : ℕ) (pair : StepPair) → s % period rate ≡ t % period rate
    → IsStepPair rate invert s pair → IsStepPair rate invert t pair
IsStepPair-at rate invert s t pair e h =
    let first = same_kept rate s t e in
    let second = same_kept rate (s + 1) (t + 1) (same_later rate s t 1 e) in
    record {
      places = h.places ∙ same_by (λ a b c d. places_by a b c) _ _ _ _ _ _ _ _ first.0 first.1 second.0 second.1;
      masks = h.masks;
      sent = h.sent ∙ same_by sent_by _ _ _ _ _ _ _ _ first.0 first.1 second.0 second.1;
      size = h.size ∙ same_by size_by _ _ _ _ _ _ _ _ first.0 first.1 second.0 second.1;
    }
