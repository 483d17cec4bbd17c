use Rattle.std.proofs.Common.{◌≡◌, ◌-◌, ◌*◌, drop, take}
use Rattle.tm_base.specs.Bits.{bits_of}
use Rattle.tm_path_commands.specs.Packing.{Packs}
use Rattle.tm_path_commands.proofs.bits_command.Packer.add_octets.Given as goal

abbrev pub invariant-loop-k : goal.invariant-loop-k
invariant-loop-k g l = record {
  left : l.left ≡ l.skip - 8 * l.k;
  packs : Packs g.W.TextTaker.took l.fn.self l.fn.texts (drop l.skip (bits_of (take l.k l.octets))) l.self l.texts;
}
