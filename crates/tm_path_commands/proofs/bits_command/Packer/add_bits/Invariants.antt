use Rattle.std.proofs.Common.{◌==◌, take, map}
use Rattle.tm_path_commands.specs.Packing.{Packs}
use Rattle.tm_path_commands.proofs.bits_command.Packer.add_bits.Given as goal

abbrev pub invariant-loop-k : goal.invariant-loop-k
invariant-loop-k g l = Packs g.W.TextTaker.took l.fn.self l.fn.texts (map (λ bit. bit == 1) (take l.k l.bits)) l.self
    l.texts
