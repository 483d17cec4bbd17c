use Rattle.std.proofs.Common.{◌≡◌, ◌+◌, ◌-◌, ◌^◌, ◌%◌, ◌≤◌, ◌<◌, ◌++◌, ◌∙◌, ℕ, List, Bool, [], ◌∷◌, refl, sym, ap, subst, arith, rules, get_or, take, drop}
use Rattle.std.proofs.Math.Seq.{take-add}
use Rattle.std.proofs.lemmas.List.{take-take}
use Rattle.tm_conv.specs.declared.rates.Rate.{Rate}
use Rattle.tm_conv.specs.Path.{period, step_size, steps_size}
use Rattle.tm_conv.proofs.Paths.{steps_size-more}
use Rattle.tm_conv.proofs.Sizes.{step_size-is}
use Rattle.tm_viterbi.specs.Carries.{Carries, lifted}
use Rattle.tm_viterbi.specs.StepPairs.{IsStepPair, AreStepPairs}
use Rattle.tm_viterbi.specs.declared.step_pairs.StepPair.{StepPair}
use Rattle.tm_viterbi.proofs.Carrying.{Carries-append, four_set, one_step}
use Rattle.tm_viterbi.proofs.StepPairs.{IsStepPair-at, same_later, same_position, position_small}
use Rattle.tm_viterbi.proofs.narrow_steps.four_steps.Goals as goal

-- the pairs at the steps' position in the pattern are theirs
at_position : (rate : Rate) (invert : Bool) (t q : ℕ) (pairs : List StepPair) (d : StepPair) → q ≡ t % period rate
    → AreStepPairs rate invert pairs
    → IsStepPair rate invert t (get_or pairs q d) × IsStepPair rate invert (t + 2) (get_or pairs (q + 2) d)
at_position rate invert t q pairs d e h =
    let same = ap (λ (v : ℕ). v % period rate) e ∙ same_position rate t in
    let small : q < 7 = omega (arith, e, (position_small rate t).1) in (
      IsStepPair-at rate invert q t (get_or pairs q d) same (h q d (omega arith)),
      IsStepPair-at rate invert (q + 2) (t + 2) (get_or pairs (q + 2) d) (same_later rate q t 2 same)
          (h (q + 2) d (omega arith)),
    )

pub two_steps-first-requires-clause-pair : goal.two_steps-first-requires-clause-pair
two_steps-first-requires-clause-pair c =
    (at_position c.args.rate c.args.invert c.args.t c.args.position c.args.pairs.now _
    c.requires.position c.requires.pairs).0

pub two_steps-third-requires-clause-pair : goal.two_steps-third-requires-clause-pair
two_steps-third-requires-clause-pair c =
    (at_position c.args.rate c.args.invert c.args.t c.args.position c.args.pairs.now _
    c.requires.position c.requires.pairs).1

pub two_steps-third-requires-clause-room : goal.two_steps-third-requires-clause-room
two_steps-third-requires-clause-room c s lt =
    omega (arith, c.two_steps-first.ensures.bounded (2 ^ 16 - 2041) c.requires.room s lt)

-- two steps send at most four symbols
few : (rate : Rate) (t : ℕ) → step_size rate t + step_size rate (t + 1) ≤ 4
few rate t = omega (arith, step_size-is rate t, step_size-is rate (t + 1))

pub overflow_add-result : goal.overflow_add-result
overflow_add-result c =
    let rate = c.args.rate in
    let t = c.args.t in
    let d : StepPair = record { places = []; masks = []; sent = []; size = 0 } in
    let pairs = c.args.pairs.now in
    let both = at_position rate c.args.invert t c.args.position pairs d
    c.requires.position c.requires.pairs in
    let one : (get_or pairs c.args.position d).size ≤ 4 = omega (arith, both.0.size, few rate t) in
    let other : (get_or pairs (c.args.position + 2) d).size ≤ 4 = omega (arith, both.1.size, few rate (t + 2)) in
    search rules

pub returns-clause-taken : goal.returns-clause-taken
returns-clause-taken c =
    let rate = c.args.rate in
    let t = c.args.t in
    let d : StepPair = record { places = []; masks = []; sent = []; size = 0 } in
    let both = at_position rate c.args.invert t c.args.position c.args.pairs.now d
    c.requires.position c.requires.pairs in
    let two : steps_size rate t 2 ≡ steps_size rate t 1 + step_size rate (t + 1) = steps_size-more rate t 1 in
    let three : steps_size rate t 3 ≡ steps_size rate t 2 + step_size rate (t + 2) = steps_size-more rate t 2 in
    let four : steps_size rate t 4 ≡ steps_size rate t 3 + step_size rate (t + 3) = steps_size-more rate t 3 in
    let last : step_size rate (t + 2 + 1) ≡ step_size rate (t + 3) =
    ap (step_size rate) (let e : t + 2 + 1 ≡ t + 3 = omega arith in e) in
    omega (arith, both.0.size, both.1.size, one_step rate t, two, three, four, last)

-- the octets of two steps and of two more, each out of four
both_octets : (n m : ℕ) (octets : List ℕ) → n ≤ 4 → m ≤ 4
    → take n (take 4 octets) ++ take m (take (n + 4 - n) (drop n octets)) ≡ take (n + m) octets
both_octets n m octets nl ml =
    let four : n + 4 - n ≡ 4 = omega arith in
    ap (λ (v : List ℕ). v ++ take m (take (n + 4 - n) (drop n octets))) (take-take n 4 octets nl)
    ∙ ap (λ (k : ℕ). take n octets ++ take m (take k (drop n octets))) four
    ∙ ap (λ (v : List ℕ). take n octets ++ v) (take-take m 4 (drop n octets) ml)
    ∙ sym (take-add n m octets)

pub returns-clause-carries : goal.returns-clause-carries
returns-clause-carries c base =
    let rate = c.args.rate in
    let invert = c.args.invert in
    let t = c.args.t in
    let octets = c.args.octets.now in
    let d : StepPair = record { places = []; masks = []; sent = []; size = 0 } in
    let both = at_position rate invert t c.args.position c.args.pairs.now d
    c.requires.position c.requires.pairs in
    let n = (get_or c.args.pairs.now c.args.position d).size in
    let m = (get_or c.args.pairs.now (c.args.position + 2) d).size in
    let nl : n ≤ 4 = omega (arith, both.0.size, few rate t) in
    let ml : m ≤ 4 = omega (arith, both.1.size, few rate (t + 2)) in
    let first = lifted base (c.args.low ++ c.args.high) in
    let between = lifted base (c.two_steps-first.result.0 ++ c.two_steps-first.result.1) in
    let next = lifted base (c.two_steps-third.result.0 ++ c.two_steps-third.result.1) in
    let carries = Carries-append rate invert t (t + 2) (take n (take 4 octets))
    (take m (take (n + 4 - n) (drop n octets))) first between next _ _
    (c.two_steps-first.ensures.carries base) refl (c.two_steps-third.ensures.carries base) in
    let survivors : List ℕ =
    c.two_steps-first.result.2 ∷ c.two_steps-first.result.3
    ∷ c.two_steps-third.result.2 ∷ c.two_steps-third.result.3 ∷ [] in
    subst (λ (w : List ℕ). Carries rate invert t (take (n + m) octets) first next w)
    (sym (four_set c.args.survivors.now _ _ _ _ c.requires.survivors))
    (subst (λ (v : List ℕ). Carries rate invert t v first next survivors) (both_octets n m octets nl ml) carries)

pub returns-clause-bounded : goal.returns-clause-bounded
returns-clause-bounded c m h s lt =
    omega (arith, c.two_steps-third.ensures.bounded (m + 1020) (c.two_steps-first.ensures.bounded m h) s lt)
