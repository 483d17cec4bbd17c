use Rattle.std.proofs.Common.{◌+◌, ◌∙◌, ap, get_or, ℕ}
use Rattle.tm_conv.specs.declared.octets.TheConstants.{NEXT}
use Rattle.tm_conv.proofs.octets.position_after.Goals as goal

pub returns : goal.returns
returns c =
    ap (λ (k : ℕ). get_or NEXT (c.first_row.result + k) 0) c.from.ensures
    ∙ c.first_row.ensures.next c.args.position c.requires
