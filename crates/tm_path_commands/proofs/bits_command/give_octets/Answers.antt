use Rattle.std.proofs.Common.{arith}
use Rattle.tm_base.proofs.Octets.{are_octets}
use Rattle.tm_path_commands.proofs.bits_command.give_octets.Goals as goal

pub returns-clause-octets : goal.returns-clause-octets
returns-clause-octets g c = are_octets c.args.octets.now (λ i. omega (arith, c.type_inv.octets i))
