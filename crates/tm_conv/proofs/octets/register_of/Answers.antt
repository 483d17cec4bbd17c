use Rattle.std.proofs.Common.{◌∙◌, ◌<◌, ap, sym, subst, get_or, ℕ}
use Rattle.tm_conv.specs.declared.octets.tables.TheConstants.{REGISTER_AFTER}
use Rattle.tm_conv.proofs.OctetTables.{register_from_table, register_within}
use Rattle.tm_conv.proofs.octets.register_of.Goals as goal

pub returns-clause-after : goal.returns-clause-after
returns-clause-after c =
    λ register small. ap (λ (j : ℕ). get_or REGISTER_AFTER j 0) c.from.ensures
    ∙ register_from_table register c.args.octet small c.ranges.octet.fits

pub returns-clause-small : goal.returns-clause-small
returns-clause-small c =
    subst (λ (j : ℕ). get_or REGISTER_AFTER j 0 < 64) (sym c.from.ensures)
    (register_within c.args.octet c.ranges.octet.fits)
