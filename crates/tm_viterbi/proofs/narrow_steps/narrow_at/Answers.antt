use Rattle.std.proofs.Common.{◌≡◌, sym, subst, ℕ, List, Bool}
use Rattle.tm_conv.specs.declared.rates.Rate.{Rate}
use Rattle.tm_viterbi.specs.Carries.{Carries}
use Rattle.tm_viterbi.proofs.narrow_steps.narrow_at.Goals as goal

at_rate : (rate other : Rate) (invert : Bool) (t : ℕ) (octets sums next survivors : List ℕ) → rate ≡ other
    → Carries other invert t octets sums next survivors → Carries rate invert t octets sums next survivors
at_rate rate other invert t octets sums next survivors e h =
    subst (λ (v : Rate). Carries v invert t octets sums next survivors) (sym e) h

pub returns-in-R12-clause-carries : goal.returns-in-R12-clause-carries
returns-in-R12-clause-carries c base = at_rate _ _ _ _ _ _ _ _ c.in-R12.is (c.narrow_half_rate.ensures.carries base)

pub returns-in-R23-clause-carries : goal.returns-in-R23-clause-carries
returns-in-R23-clause-carries c base = at_rate _ _ _ _ _ _ _ _ c.in-R23.is (c.narrow_fours.ensures.carries base)

pub returns-in-R34-clause-carries : goal.returns-in-R34-clause-carries
returns-in-R34-clause-carries c base = at_rate _ _ _ _ _ _ _ _ c.in-R34.is (c.narrow_fours-in-R34.ensures.carries base)

pub returns-in-R56-clause-carries : goal.returns-in-R56-clause-carries
returns-in-R56-clause-carries c base = at_rate _ _ _ _ _ _ _ _ c.in-R56.is (c.narrow_fours-in-R56.ensures.carries base)

pub returns-in-R78-clause-carries : goal.returns-in-R78-clause-carries
returns-in-R78-clause-carries c base = at_rate _ _ _ _ _ _ _ _ c.in-R78.is (c.narrow_fours-in-R78.ensures.carries base)
