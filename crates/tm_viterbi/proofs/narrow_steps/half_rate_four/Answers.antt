use Rattle.std.proofs.Common.{◌≡◌, ◌+◌, ◌-◌, ◌^◌, ◌++◌, ◌∙◌, ℕ, List, [], ◌∷◌, refl, sym, ap, subst, arith, length, length-drop, take, drop}
use Rattle.std.proofs.lemmas.List.{take_all, take-append-drop}
use Rattle.tm_conv.specs.declared.rates.Rate.TheVariants.{R12}
use Rattle.tm_viterbi.specs.Carries.{Carries, lifted}
use Rattle.tm_viterbi.proofs.Carrying.{Carries-append, four_set}
use Rattle.tm_viterbi.proofs.narrow_steps.half_rate_four.Goals as goal

pub half_rate_two-third-requires-clause-room : goal.half_rate_two-third-requires-clause-room
half_rate_two-third-requires-clause-room c s lt =
    omega (arith, c.half_rate_two-first.ensures.bounded (2 ^ 16 - 2041) c.requires.room s lt)

pub returns-clause-carries : goal.returns-clause-carries
returns-clause-carries c invert t base e =
    let octets = c.args.octets.now in
    let rest : take (length octets - 4) (drop 4 octets) ≡ drop 4 octets =
    take_all (length octets - 4) (drop 4 octets) (omega (arith, length-drop 4 octets)) in
    let whole : take 4 octets ++ take (length octets - 4) (drop 4 octets) ≡ octets =
    ap (λ (v : List ℕ). take 4 octets ++ v) rest ∙ take-append-drop 4 octets in
    let carries = Carries-append R12 invert t (t + 2) _ _ (lifted base (c.args.low ++ c.args.high))
    (lifted base (c.half_rate_two-first.result.0 ++ c.half_rate_two-first.result.1))
    (lifted base (c.half_rate_two-third.result.0 ++ c.half_rate_two-third.result.1)) _ _
    (c.half_rate_two-first.ensures.carries invert t base e) refl
    (c.half_rate_two-third.ensures.carries invert (t + 2) base e) in
    let survivors : List ℕ =
    c.half_rate_two-first.result.2 ∷ c.half_rate_two-first.result.3
    ∷ c.half_rate_two-third.result.2 ∷ c.half_rate_two-third.result.3 ∷ [] in
    let P : List ℕ → List ℕ → Type 0 = λ v w. Carries R12 invert t v (lifted base (c.args.low ++ c.args.high))
    (lifted base (c.half_rate_two-third.result.0 ++ c.half_rate_two-third.result.1)) w in
    subst (λ (w : List ℕ). P octets w) (sym (four_set c.args.survivors.now _ _ _ _ c.requires.survivors))
    (subst (λ (v : List ℕ). P v survivors) whole carries)

pub returns-clause-bounded : goal.returns-clause-bounded
returns-clause-bounded c m h s lt =
    omega (arith, c.half_rate_two-third.ensures.bounded (m + 1020) (c.half_rate_two-first.ensures.bounded m h) s lt)
