use Rattle.tm_base.proofs.Packing.{low_bits-zero}
use Rattle.tm_path_commands.proofs.bits_command.Packer.new.Goals as goal

pub returns : goal.returns
returns c = low_bits-zero 0
