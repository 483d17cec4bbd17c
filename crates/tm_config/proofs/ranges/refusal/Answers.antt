use Rattle.std.proofs.Common.{◌∙◌, refl}
use Rattle.tm_config.specs.Accepted.{refusal_of_raw}
use Rattle.tm_config.proofs.ranges.refusal.Goals as goal

pub returns : goal.returns
unfolding refusal_of_raw
returns c = c.first_error.ensures ∙ (rw (
  c.code_fits.ensures,
  c.depth_fits.ensures,
  c.length_fits.ensures,
  c.inner_fits.ensures,
  c.switches_fit.ensures,
  c.is_choice.ensures,
  c.repair_fits.ensures,
  c.is_choice-2.ensures,
  c.is_choice-3.ensures,
) (rw (
  c.is_within.ensures,
  c.is_within-2.ensures,
  c.is_within-3.ensures,
  c.phase_fits.ensures,
  c.is_choice-4.ensures,
  c.is_within-4.ensures,
  c.is_choice-5.ensures,
  c.is_choice-6.ensures,
  c.is_choice-7.ensures,
) refl))
