use Rattle.std.proofs.Common.{arith}
use Rattle.tm_base.proofs.Octets.{are_octets}
use Rattle.tm_codeblock.proofs.Codeblocks.{coded-is}
use Rattle.tmchan_c.proofs.reed_solomon.write_checks.Goals as goal

pub returns : goal.returns
returns c =
    coded-is c.args.basis c.args.params.now.e c.args.info.now _ _ _
    (are_octets c.args.info.now (λ i. omega (arith, c.type_inv.info i)))
    c.octets_to_elements.ensures c.checks.ensures.codeword c.elements_to_octets.ensures
