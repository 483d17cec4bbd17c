-- Steps one after the other, and sums less a base.
use Rattle.std.proofs.Common.{◌≡◌, ℕ, zero, suc, ◌+◌, ◌-◌, ◌*◌, ◌/◌, ◌%◌, ◌<◌, ◌≤◌, ◌∙◌, sym, ap, subst, refl, arith, length, get_or, List, [], ◌∷◌, ◌++◌, min, cond, ltb, Bool, append_assoc, length-append, length-drop, take, drop, set}
use Rattle.std.proofs.lemmas.List.{reverse-append, append-nil, length-take-le, take_more_set, ext_get_or, take_all, take-append-drop}
use Rattle.std.proofs.lemmas.Slice.{take-put_mid}
use borrow.Rule.Slice.PartMut.{put_mid, same_len_mid}
use Rattle.std.proofs.Math.Seq.{take-add}
use Rattle.std.proofs.lemmas.Bool.Decides.{nat_tests}
use mathlib.Core.List.{reverse}
use Rattle.tm_conv.specs.declared.rates.Rate.{Rate}
use Rattle.tm_conv.specs.declared.rates.Rate.TheVariants.{R12}
use Rattle.tm_conv.specs.Path.{c1, c2, step_size, steps_size}
use Rattle.tm_viterbi.specs.Walk.{AreBest}
use Rattle.tm_viterbi.specs.AddCompareSelect.{IsNextSums, first_metric, second_metric}
use Rattle.tm_viterbi.specs.Totals.{total_of, StepsTo, AreBranchMetrics, AreAtMost}
use Rattle.tm_viterbi.proofs.Walk.{AreBest-more}
use Rattle.tm_viterbi.proofs.Totals.{Grows-total_of}
use Rattle.tm_conv.proofs.Paths.{steps_size-more, steps_size-zero}
use Rattle.tm_viterbi.specs.Carries.{Carries, lifted}
use Rattle.tm_conv.proofs.Sizes.{steps_size-add, steps_size-le, step_size-is}

pub Carries-none : (rate : Rate) (invert : Bool) (t : ℕ) (sums : List ℕ) → Carries rate invert t [] sums sums []
Carries-none rate invert t sums = record {
  size = sym (steps_size-zero rate t);
  carries = λ first i firsts before past e l best.
      let P : List ℕ → ℕ → Type 0 = λ v n. AreBest (total_of rate invert first firsts v) n sums past in
      let same : i ≡ i + 0 = omega arith in
      subst (λ (v : List ℕ). P v (i + 0)) (sym (append-nil before)) (subst (λ (n : ℕ). P before n) same best);
}

pub Carries-more : (rate : Rate) (invert : Bool) (t survivor : ℕ) (octets piece sums middle next survivors : List ℕ)
    → Carries rate invert t octets sums middle survivors → length piece ≡ step_size rate (t + length survivors)
    → StepsTo rate invert (t + length survivors) piece middle next survivor
    → Carries rate invert t (octets ++ piece) sums next (survivors ++ survivor ∷ [])
Carries-more rate invert t survivor octets piece sums middle next survivors h len step =
    let n = length survivors in
    let long : length (survivors ++ survivor ∷ []) ≡ n + 1 = length-append survivors (survivor ∷ []) ∙ omega arith in
    record {
      size = length-append octets piece ∙ omega (arith, h.size, len, steps_size-more rate t n)
          ∙ sym (ap (steps_size rate t) long);
      carries = λ first i firsts before past e l best.
          let there : t + n ≡ first + (i + n) = omega arith in
          let size : length (before ++ octets) ≡ steps_size rate first (i + n) =
          length-append before octets
          ∙ omega (arith, l, h.size, steps_size-add rate first i n, ap (λ (v : ℕ). steps_size rate v n) e) in
          let metrics : AreBranchMetrics rate invert (first + (i + n)) piece step.metrics =
          subst (λ (v : ℕ). AreBranchMetrics rate invert v piece step.metrics) there step.are_branch_metrics in
          let grows = Grows-total_of rate invert first (i + n) firsts (before ++ octets) piece
          step.metrics size metrics in
          let so : AreBest (total_of rate invert first firsts ((before ++ octets) ++ piece)) (i + n + 1) next
          (survivor ∷ (reverse survivors ++ past))
          = AreBest-more _ _ (i + n) survivor middle step.metrics next
          (reverse survivors ++ past) grows step.are_sums step.are_survivors
          (h.carries first i firsts before past e l best) in
          let count : i + n + 1 ≡ i + length (survivors ++ survivor ∷ []) = omega (arith, long) in
          let rows : survivor ∷ (reverse survivors ++ past) ≡ reverse (survivors ++ survivor ∷ []) ++ past =
          sym (ap (λ (v : List ℕ). v ++ past) (reverse-append survivors (survivor ∷ []))) in
          let P : List ℕ → ℕ → List ℕ → Type 0 = λ v k w. AreBest (total_of rate invert first firsts v) k next w in
          subst (λ (w : List ℕ). P (before ++ (octets ++ piece)) (i + length (survivors ++ survivor ∷ [])) w) rows
          (subst (λ (k : ℕ). P (before ++ (octets ++ piece)) k (survivor ∷ (reverse survivors ++ past))) count
          (subst (λ (v : List ℕ). P v (i + n + 1) (survivor ∷ (reverse survivors ++ past)))
          (append_assoc before octets piece) so));
    }

-- steps after steps
pub Carries-append : (rate : Rate) (invert : Bool) (t u : ℕ) (octets piece sums middle next survivors more : List ℕ)
    → Carries rate invert t octets sums middle survivors → u ≡ t + length survivors
    → Carries rate invert u piece middle next more
    → Carries rate invert t (octets ++ piece) sums next (survivors ++ more)
Carries-append rate invert t u octets piece sums middle next survivors more h e k =
    let n = length survivors in
    let m = length more in
    let long : length (survivors ++ more) ≡ n + m = length-append survivors more in
    record {
      size = length-append octets piece
          ∙ omega (arith, h.size, k.size, steps_size-add rate t n m, ap (λ (v : ℕ). steps_size rate v m) e)
          ∙ sym (ap (steps_size rate t) long);
      carries = λ first i firsts before past f l best.
          let there : u ≡ first + (i + n) = omega arith in
          let size : length (before ++ octets) ≡ steps_size rate first (i + n) =
          length-append before octets
          ∙ omega (arith, l, h.size, steps_size-add rate first i n, ap (λ (v : ℕ). steps_size rate v n) f) in
          let so = k.carries first (i + n) firsts (before ++ octets) (reverse survivors ++ past) there size
          (h.carries first i firsts before past f l best) in
          let count : i + n + m ≡ i + length (survivors ++ more) = omega (arith, long) in
          let rows : reverse more ++ (reverse survivors ++ past) ≡ reverse (survivors ++ more) ++ past =
          sym (append_assoc (reverse more) (reverse survivors) past)
          ∙ sym (ap (λ (v : List ℕ). v ++ past) (reverse-append survivors more)) in
          let P : List ℕ → ℕ → List ℕ → Type 0 = λ v j w. AreBest (total_of rate invert first firsts v) j next w in
          subst (λ (w : List ℕ). P (before ++ (octets ++ piece)) (i + length (survivors ++ more)) w) rows
          (subst (λ (j : ℕ). P (before ++ (octets ++ piece)) j (reverse more ++ (reverse survivors ++ past))) count
          (subst (λ (v : List ℕ). P v (i + n + m) (reverse more ++ (reverse survivors ++ past)))
          (append_assoc before octets piece) so));
    }

-- ---- sums less a base

pub length-lifted : (base : ℕ) (xs : List ℕ) → length (lifted base xs) ≡ length xs
length-lifted base [] = refl
length-lifted base (x ∷ xs) = ap suc (length-lifted base xs)

pub get_or-lifted : (base : ℕ) (xs : List ℕ) (i : ℕ) → i < length xs
    → get_or (lifted base xs) i 0 ≡ base + get_or xs i 0
get_or-lifted base [] i lt = absurd (omega arith)
get_or-lifted base (x ∷ xs) zero lt = refl
get_or-lifted base (x ∷ xs) (suc i) lt = get_or-lifted base xs i (omega arith)

first_lifted : (base : ℕ) (sums metrics : List ℕ) (s : ℕ) → length sums ≡ 64 → s < 64
    → first_metric (lifted base sums) metrics s ≡ base + first_metric sums metrics s
first_lifted base sums metrics s long lt = omega (arith, get_or-lifted base sums (2 * (s % 32)) (omega arith))

second_lifted : (base : ℕ) (sums metrics : List ℕ) (s : ℕ) → length sums ≡ 64 → s < 64
    → second_metric (lifted base sums) metrics s ≡ base + second_metric sums metrics s
second_lifted base sums metrics s long lt = omega (arith, get_or-lifted base sums (2 * (s % 32) + 1) (omega arith))

lesser_lifted : (base a b c d n m : ℕ) → a ≡ base + c → b ≡ base + d → n ≡ base + m → m ≡ min c d → n ≡ min a b
lesser_lifted base a b c d n m ea eb en em = omega arith

less_lifted : (base a b c d : ℕ) → a ≡ base + c → b ≡ base + d → ◌≡◌ {A = ℕ} (cond (ltb d c) 1 0) (cond (ltb b a) 1 0)
less_lifted base a b c d ea eb = grind (arith, nat_tests)

pub StepsTo-lifted : (rate : Rate) (invert : Bool) (t base survivor : ℕ) (octets sums next : List ℕ) → length sums ≡ 64
    → length next ≡ 64
    → StepsTo rate invert t octets sums next survivor
    → StepsTo rate invert t octets (lifted base sums) (lifted base next) survivor
StepsTo-lifted rate invert t base survivor octets sums next ls ln h = record {
  metrics = h.metrics;
  are_branch_metrics = h.are_branch_metrics;
  are_sums = λ s lt.
      lesser_lifted base (first_metric (lifted base sums) h.metrics s) (second_metric (lifted base sums) h.metrics s)
      (first_metric sums h.metrics s) (second_metric sums h.metrics s) (get_or (lifted base next) s 0) (get_or next s 0)
      (first_lifted base sums h.metrics s ls lt) (second_lifted base sums h.metrics s ls lt)
      (get_or-lifted base next s (omega arith)) (h.are_sums s lt);
  are_survivors = λ s lt. h.are_survivors s lt
      ∙ less_lifted base (first_metric (lifted base sums) h.metrics s) (second_metric (lifted base sums) h.metrics s)
      (first_metric sums h.metrics s) (second_metric sums h.metrics s)
      (first_lifted base sums h.metrics s ls lt) (second_lifted base sums h.metrics s ls lt);
}

pub at_most_next : (sums metrics next : List ℕ) (most : ℕ) → IsNextSums sums metrics next → AreAtMost most sums
    → ((k : ℕ) → k < 4 → get_or metrics k 0 ≤ 510) → AreAtMost (most + 510) next
at_most_next sums metrics next most h bound small s lt =
    omega (
      arith,
      h s lt,
      bound (2 * (s % 32)) (omega arith),
      small
          (2 * c1 (2 * (s % 32)) (s / 32) + c2 (2 * (s % 32)) (s / 32)) (omega arith),
    )

-- one step more of a loop over octets and survivors
pub carried_on : (rate : Rate) (invert : Bool) (t at len i survivor : ℕ)
    (soft piece first middle next survivors : List ℕ)
    → at + len ≤ length soft → len ≡ step_size rate (t + i) → piece ≡ take len (drop at soft) → i < length survivors
    → StepsTo rate invert (t + i) piece middle next survivor
    → Carries rate invert t (take at soft) first middle (take i survivors)
    → Carries rate invert t (take (at + len) soft) first next (take (i + 1) (set survivors i survivor))
carried_on rate invert t at len i survivor soft piece first middle next survivors room size is lt step h =
    let count : length (take i survivors) ≡ i = length-take-le i survivors (omega arith) in
    let long : length piece ≡ len = ap length is
    ∙ length-take-le len (drop at soft) (omega (arith, length-drop at soft)) in
    let fits : length piece ≡ step_size rate (t + length (take i survivors)) = long ∙ size
    ∙ ap (λ (n : ℕ). step_size rate (t + n)) (sym count) in
    let so : Carries rate invert t (take at soft ++ piece) first next (take i survivors ++ survivor ∷ []) =
    Carries-more rate invert t survivor (take at soft) piece first middle next (take i survivors) h fits
    (subst (λ (n : ℕ). StepsTo rate invert (t + n) piece middle next survivor) (sym count) step) in
    let octets : take at soft ++ piece ≡ take (at + len) soft = ap (λ (v : List ℕ). take at soft ++ v) is
    ∙ sym (take-add at len soft) in
    subst (λ (w : List ℕ). Carries rate invert t (take (at + len) soft) first next w)
    (sym (take_more_set survivors i survivor lt))
    (subst (λ (v : List ℕ). Carries rate invert t v first next (take i survivors ++ survivor ∷ [])) octets so)

pub lifted_is : (base : ℕ) (xs ys : List ℕ) → length xs ≡ 64 → length ys ≡ 64
    → ((s : ℕ) → s < 64 → base + get_or xs s 0 ≡ get_or ys s 0) → lifted base xs ≡ ys
lifted_is base xs ys lx ly each =
    ext_get_or 0 (lifted base xs) ys (length-lifted base xs ∙ lx ∙ sym ly)
    (λ i lt. let below : i < 64 = omega (arith, length-lifted base xs) in get_or-lifted base xs i (omega arith)
    ∙ each i below)

pub one_step : (rate : Rate) (t : ℕ) → steps_size rate t 1 ≡ step_size rate t
one_step rate t =
    let e : 0 + 1 ≡ 1 = omega arith in
    let f : t + 0 ≡ t = omega arith in
    ap (steps_size rate t) (sym e) ∙ steps_size-more rate t 0
    ∙ ap (λ (v : ℕ). v + step_size rate (t + 0)) (steps_size-zero rate t) ∙ ap (λ (v : ℕ). 0 + step_size rate v) f
    ∙ omega arith

pub single_set : (survivors : List ℕ) (survivor : ℕ) → length survivors ≡ 1 → set survivors 0 survivor ≡ survivor ∷ []
single_set [] survivor e = absurd (omega arith)
single_set (x ∷ []) survivor e = refl
single_set (x ∷ y ∷ ys) survivor e = absurd (omega arith)

pub four_set : (survivors : List ℕ) (a b c d : ℕ) → length survivors ≡ 4
    → set (set (set (set survivors 0 a) 1 b) 2 c) 3 d ≡ a ∷ b ∷ c ∷ d ∷ []
four_set [] a b c d long = absurd (omega arith)
four_set (w ∷ []) a b c d long = absurd (omega arith)
four_set (w ∷ x ∷ []) a b c d long = absurd (omega arith)
four_set (w ∷ x ∷ y ∷ []) a b c d long = absurd (omega arith)
four_set (w ∷ x ∷ y ∷ z ∷ []) a b c d long = refl
four_set (v ∷ w ∷ x ∷ y ∷ z ∷ zs) a b c d long = absurd (omega arith)

pub Carries-one : (rate : Rate) (invert : Bool) (t survivor : ℕ) (piece sums next : List ℕ)
    → length piece ≡ step_size rate t → StepsTo rate invert t piece sums next survivor
    → Carries rate invert t piece sums next (survivor ∷ [])
Carries-one rate invert t survivor piece sums next len step =
    let f : t ≡ t + 0 = omega arith in
    Carries-more rate invert t survivor [] piece sums sums next [] (Carries-none rate invert t sums)
    (len ∙ ap (step_size rate) f) (subst (λ (v : ℕ). StepsTo rate invert v piece sums next survivor) f step)

-- the octets of some more steps are there
pub rest_fits : (rate : Rate) (t at done n k : ℕ) (soft : List ℕ) → length soft ≡ steps_size rate t k
    → at ≡ steps_size rate t done → done + n ≤ k
    → steps_size rate (t + done) n ≤ length (take (length soft - at) (drop at soft))
rest_fits rate t at done n k soft size place le =
    omega (
      arith,
      length-take-le (length soft - at) (drop at soft)
          (omega (arith, length-drop at soft)),
      length-drop at soft,
      steps_size-add rate t done n,
      steps_size-le rate t
          (done + n) k le,
    )

-- a block after those before
pub blocks_on : (rate : Rate) (invert : Bool) (t at r done n m : ℕ) (soft sums middle next survivors piece : List ℕ)
    → at ≡ steps_size rate t done → at ≤ length soft → r ≤ length soft - at → done + n ≤ length survivors
    → length piece ≡ n → m ≡ done + n
    → Carries rate invert t (take at soft) sums middle (take done survivors)
    → Carries rate invert (t + done) (take r (take (length soft - at) (drop at soft))) middle next piece
    → Carries rate invert t (take (at + r) soft) sums next (take m (put_mid done (m - done) survivors piece))
blocks_on rate invert t at r done n m soft sums middle next survivors piece place room few le len me before block =
    let rest : take (length soft - at) (drop at soft) ≡ drop at soft =
    take_all (length soft - at) (drop at soft) (omega (arith, length-drop at soft)) in
    let octets : take at soft ++ take r (take (length soft - at) (drop at soft)) ≡ take (at + r) soft =
    ap (λ (v : List ℕ). take at soft ++ take r v) rest ∙ sym (take-add at r soft) in
    let count : length (take done survivors) ≡ done = length-take-le done survivors (omega arith) in
    let rows : take done survivors ++ piece ≡ take m (put_mid done (m - done) survivors piece) =
    sym (take-put_mid done (m - done) survivors piece m (omega arith) (omega arith)) in
    subst (λ (w : List ℕ). Carries rate invert t (take (at + r) soft) sums next w) rows
    (subst (λ (v : List ℕ). Carries rate invert t v sums next (take done survivors ++ piece)) octets
    (Carries-append rate invert t (t + done) (take at soft)
    (take r (take (length soft - at) (drop at soft))) sums middle next (take done survivors) piece before
    (ap (λ (v : ℕ). t + v) (sym count)) block))

pub length-mid : (a k : ℕ) (xs ys : List ℕ) → a + k ≤ length xs → length ys ≡ k → length (put_mid a k xs ys) ≡ length xs
length-mid a k xs ys le e =
    same_len_mid a k xs ys (e ∙ sym (length-take-le k (drop a xs) (omega (arith, length-drop a xs))))

-- two steps from the octets of both
pub Carries-two : (rate : Rate) (invert : Bool) (t one two : ℕ) (octets sums between next : List ℕ)
    → step_size rate t + step_size rate (t + 1) ≤ length octets
    → StepsTo rate invert t (take (step_size rate t) octets) sums between one
    → StepsTo rate invert (t + 1) (take (step_size rate (t + 1)) (drop (step_size rate t) octets)) between next two
    → Carries rate invert t (take (step_size rate t + step_size rate (t + 1)) octets) sums next (one ∷ two ∷ [])
Carries-two rate invert t one two octets sums between next fits a b =
    let n = step_size rate t in
    let m = step_size rate (t + 1) in
    let first : length (take n octets) ≡ n = length-take-le n octets (omega arith) in
    let second : length (take m (drop n octets)) ≡ m =
    length-take-le m (drop n octets) (omega (arith, length-drop n octets)) in
    subst (λ (v : List ℕ). Carries rate invert t v sums next (one ∷ two ∷ [])) (sym (take-add n m octets))
    (Carries-more rate invert t two (take n octets) (take m (drop n octets)) sums between next (one ∷ [])
    (Carries-one rate invert t one (take n octets) sums between first a) second b)

-- ---- rate 1/2

pub half_step : (t : ℕ) → step_size R12 t ≡ 2
half_step t = let e : t % 1 ≡ 0 = omega arith in step_size-is R12 t ∙ ap (λ k. 2 - min 1 k) e

pub half_steps : (t n : ℕ) → steps_size R12 t n ≡ 2 * n
half_steps t zero = steps_size-zero R12 t
half_steps t (suc n) =
    let e : n + 1 ≡ suc n = omega arith in
    ap (steps_size R12 t) (sym e) ∙ steps_size-more R12 t n ∙ omega (arith, half_steps t n, half_step (t + n))

-- two steps from the octets of both
pub half_rate_pair : (invert : Bool) (t one two : ℕ) (octets sums between next : List ℕ) → length octets ≡ 4
    → StepsTo R12 invert t (take 2 octets) sums between one
    → StepsTo R12 invert (t + 1) (drop 2 octets) between next two
    → Carries R12 invert t octets sums next (one ∷ two ∷ [])
half_rate_pair invert t one two octets sums between next long a b =
    let first : length (take 2 octets) ≡ step_size R12 t =
    length-take-le 2 octets (omega arith) ∙ sym (half_step t) in
    let second : length (drop 2 octets) ≡ step_size R12 (t + 1) =
    length-drop 2 octets ∙ omega arith ∙ sym (half_step (t + 1)) in
    subst (λ (v : List ℕ). Carries R12 invert t v sums next (one ∷ two ∷ [])) (take-append-drop 2 octets)
    (Carries-more R12 invert t two (take 2 octets) (drop 2 octets) sums between next (one ∷ [])
    (Carries-one R12 invert t one (take 2 octets) sums between first a) second b)
