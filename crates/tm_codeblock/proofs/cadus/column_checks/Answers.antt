use Rattle.std.proofs.Common.{arith}
use Rattle.tm_base.proofs.Octets.{are_octets}
use Rattle.tm_codeblock.proofs.Codeblocks.{coded-is}
use Rattle.tm_codeblock.proofs.cadus.column_checks.Goals as goal

pub returns : goal.returns
returns c =
    coded-is c.args.basis c.args.params.now.e c.args.word.now _ _ _
    (are_octets c.args.word.now (λ i. omega (arith, c.type_inv.word i)))
    c.octets_to_elements.ensures c.checks.ensures.codeword c.elements_to_octets.ensures
