use Rattle.std.proofs.Common.{◌≡◌, ◌+◌, ◌*◌, ◌<◌, ◌^◌, ℕ, List, [], ◌∷◌, ◌++◌, Bool, true, false, cond, sym, subst, take, drop, length, get_or, map, replicate, arith, suc, Fits, w8}
use Rattle.std.specs.Prelude.{bit_and, bit_xor}
use Rattle.std.proofs.lemmas.Simd.{swz_l}
use lib.Lanes.{zip2}
use Rattle.tm_conv.specs.Path.{keeps_c1, keeps_c2, step_size, sent_c2}
use Rattle.tm_conv.specs.Cost.{cost}
use Rattle.tm_conv.specs.declared.rates.Rate.{Rate}
use Rattle.tm_viterbi.specs.Totals.{AreBranchMetrics}
use Rattle.tm_viterbi.specs.StepPairs.{four_times, two_step_masks, pair_places, pair_sent}
use Rattle.tm_viterbi.proofs.BranchMetrics.{lanes_of_step}
use Rattle.tm_viterbi.proofs.step_pairs.pair_metrics.Goals as goal

abbrev picked : List ℕ → List ℕ → List ℕ
picked xs places = map (λ k. get_or (xs ++ xs) k 0) places

abbrev wide : List ℕ → List ℕ
wide octets =
    map (λ k. get_or (octets ++ replicate 4 0) k 0)
    (0 ∷ 1 ∷ 2 ∷ 3 ∷ 4 ∷ 4 ∷ 4 ∷ 4 ∷ 4 ∷ 4 ∷ 4 ∷ 4 ∷ 4 ∷ 4 ∷ 4 ∷ 4 ∷ [])

abbrev lanes : List ℕ → List ℕ → List ℕ → List ℕ → List ℕ
lanes octets places masks sent =
    zip2 bit_and (zip2 bit_xor (swz_l w8 16 (wide (take 4 octets)) 0 places) masks) sent

abbrev summed : List ℕ → List ℕ
summed each = zip2 (λ a b. a + b) (picked each (0 ∷ 1 ∷ 2 ∷ 3 ∷ 4 ∷ 5 ∷ 6 ∷ 7 ∷ []))
    (picked each (8 ∷ 9 ∷ 10 ∷ 11 ∷ 12 ∷ 13 ∷ 14 ∷ 15 ∷ []))

abbrev firsts : List ℕ → List ℕ
firsts each = picked (summed each) (0 ∷ 1 ∷ 2 ∷ 3 ∷ [])

abbrev seconds : List ℕ → List ℕ
seconds each = picked (summed each) (4 ∷ 5 ∷ 6 ∷ 7 ∷ [])

-- the lanes of octets where sums are sent as these say
abbrev lanes_by : Bool → Bool → Bool → Bool → Bool → List ℕ → List ℕ
lanes_by k l m n invert octets =
    let first = cond k 1 0 + cond l 1 0 in
    lanes octets (four_times 0 (cond k 1 0) first (first + cond m 1 0)) (two_step_masks invert)
    (four_times (cond k 255 0) (cond l 255 0) (cond m 255 0) (cond n 255 0))

-- branch metrics of a step that sends its sums as these say
abbrev AreMetricsBy : Bool → Bool → Bool → List ℕ → List ℕ → Type 0
AreMetricsBy k l invert octets metrics = (c d : ℕ) → c < 2 → d < 2
    → get_or metrics (2 * c + d) 0 ≡ cost (cond k (c ∷ []) [] ++ cond l (sent_c2 invert d ∷ []) []) octets

four : (P : List ℕ → Type 0) (octets : List ℕ) → length octets ≡ 4 → ((k : ℕ) → Fits w8 (get_or octets k 0))
    → ((a b c d : ℕ) → a < 2 ^ 8 → b < 2 ^ 8 → c < 2 ^ 8 → d < 2 ^ 8 → P (a ∷ b ∷ c ∷ d ∷ [])) → P octets
four P [] l fits h = absurd (let e : 0 ≡ 4 = l in omega arith)
four P (a ∷ []) l fits h = absurd (let e : 1 ≡ 4 = l in omega arith)
four P (a ∷ b ∷ []) l fits h = absurd (let e : 2 ≡ 4 = l in omega arith)
four P (a ∷ b ∷ c ∷ []) l fits h = absurd (let e : 3 ≡ 4 = l in omega arith)
four P (a ∷ b ∷ c ∷ d ∷ []) l fits h = h a b c d (fits 0).fits (fits 1).fits (fits 2).fits (fits 3).fits
four P (a ∷ b ∷ c ∷ d ∷ e ∷ es) l fits h =
    absurd (let e : suc (suc (suc (suc (suc (length es))))) ≡ 4 = l in omega arith)

first_by : (k l m n invert : Bool) (a b c d : ℕ) → a < 256 → b < 256
    → AreMetricsBy k l invert (take (cond k 1 0 + cond l 1 0) (a ∷ b ∷ c ∷ d ∷ []))
    (firsts (lanes_by k l m n invert (a ∷ b ∷ c ∷ d ∷ [])))
first_by true l m n invert a b c d al bl = lanes_of_step true l invert a b (c ∷ d ∷ []) al bl
first_by false l m n invert a b c d al bl = lanes_of_step false l invert a b (c ∷ d ∷ []) al bl

second_by : (k l m n invert : Bool) (a b c d : ℕ) → a < 256 → b < 256 → c < 256 → d < 256
    → AreMetricsBy m n invert
    (take (cond m 1 0 + cond n 1 0) (drop (cond k 1 0 + cond l 1 0) (a ∷ b ∷ c ∷ d ∷ [])))
    (seconds (lanes_by k l m n invert (a ∷ b ∷ c ∷ d ∷ [])))
second_by true true true n invert a b c d al bl cl dl = lanes_of_step true n invert c d [] cl dl
second_by true true false n invert a b c d al bl cl dl = lanes_of_step false n invert c d [] cl dl
second_by true false true n invert a b c d al bl cl dl = lanes_of_step true n invert b c (d ∷ []) bl cl
second_by true false false n invert a b c d al bl cl dl = lanes_of_step false n invert b c (d ∷ []) bl cl
second_by false true true n invert a b c d al bl cl dl = lanes_of_step true n invert b c (d ∷ []) bl cl
second_by false true false n invert a b c d al bl cl dl = lanes_of_step false n invert b c (d ∷ []) bl cl
second_by false false true n invert a b c d al bl cl dl = lanes_of_step true n invert a b (c ∷ d ∷ []) al bl
second_by false false false n invert a b c d al bl cl dl = lanes_of_step false n invert a b (c ∷ d ∷ []) al bl

-- what is so for the lanes by the rate is so for those that the pair says
by_pair : (P : List ℕ → List ℕ → List ℕ → Type 0) (places masks sent x y z : List ℕ) → places ≡ x → masks ≡ y
    → sent ≡ z → P x y z → P places masks sent
by_pair P places masks sent x y z e f g h =
    subst (λ (v : List ℕ). P v masks sent) (sym e)
    (subst (λ (v : List ℕ). P x v sent) (sym f) (subst (λ (v : List ℕ). P x y v) (sym g) h))

first_metrics : (rate : Rate) (invert : Bool) (t : ℕ) (octets : List ℕ) → length octets ≡ 4
    → ((k : ℕ) → Fits w8 (get_or octets k 0))
    → AreBranchMetrics rate invert t (take (step_size rate t) octets)
    (firsts (lanes octets (pair_places rate t) (two_step_masks invert) (pair_sent rate t)))
first_metrics rate invert t octets l fits =
    four (λ v. AreBranchMetrics rate invert t (take (step_size rate t) v)
    (firsts (lanes v (pair_places rate t) (two_step_masks invert) (pair_sent rate t)))) octets l fits
    (λ a b c d al bl cl dl. first_by (keeps_c1 rate t) (keeps_c2 rate t) (keeps_c1 rate (t + 1))
    (keeps_c2 rate (t + 1)) invert a b c d al bl)

second_metrics : (rate : Rate) (invert : Bool) (t : ℕ) (octets : List ℕ) → length octets ≡ 4
    → ((k : ℕ) → Fits w8 (get_or octets k 0))
    → AreBranchMetrics rate invert (t + 1) (take (step_size rate (t + 1)) (drop (step_size rate t) octets))
    (seconds (lanes octets (pair_places rate t) (two_step_masks invert) (pair_sent rate t)))
second_metrics rate invert t octets l fits =
    four (λ v. AreBranchMetrics rate invert (t + 1) (take (step_size rate (t + 1)) (drop (step_size rate t) v))
    (seconds (lanes v (pair_places rate t) (two_step_masks invert) (pair_sent rate t)))) octets l fits
    (λ a b c d al bl cl dl. second_by (keeps_c1 rate t) (keeps_c2 rate t) (keeps_c1 rate (t + 1))
    (keeps_c2 rate (t + 1)) invert a b c d al bl cl dl)

pub returns-clause-first : goal.returns-clause-first
returns-clause-first c =
    let octets = c.args.octets.now in
    let pair = c.args.pair.now in
    by_pair (λ v w x. AreBranchMetrics c.args.rate c.args.invert c.args.t (take (step_size c.args.rate c.args.t) octets)
    (firsts (lanes octets v w x))) pair.places pair.masks pair.sent _ _ _
    c.requires.pair.places c.requires.pair.masks c.requires.pair.sent
    (first_metrics c.args.rate c.args.invert c.args.t octets c.requires.size c.type_inv.octets)

pub returns-clause-second : goal.returns-clause-second
returns-clause-second c =
    let octets = c.args.octets.now in
    let pair = c.args.pair.now in
    let t = c.args.t in
    by_pair (λ v w x. AreBranchMetrics c.args.rate c.args.invert (t + 1)
    (take (step_size c.args.rate (t + 1)) (drop (step_size c.args.rate t) octets))
    (seconds (lanes octets v w x))) pair.places pair.masks pair.sent _ _ _
    c.requires.pair.places c.requires.pair.masks c.requires.pair.sent
    (second_metrics c.args.rate c.args.invert t octets c.requires.size c.type_inv.octets)
