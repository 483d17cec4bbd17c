use Rattle.std.proofs.Common.{subst}
use Rattle.tm_inner.proofs.PlainBits.{nearest-after}
use Rattle.tm_path_commands.specs.Packing.{Packs}
use Rattle.tm_path_commands.proofs.bits_command.pack_nearest.Goals as goal

pub returns : goal.returns
returns g c =
    subst (λ l. Packs g.W.TextTaker.took c.args.packer.now c.args.texts.now l c.add_bits.new.self c.add_bits.new.texts)
    (nearest-after c.args.inner.now.config c.args.skip c.min-from.result c.args.octets.now c.nearest_bits.new.bits
    c.min-from.ensures c.nearest_bits.ensures.bits) c.add_bits.ensures
