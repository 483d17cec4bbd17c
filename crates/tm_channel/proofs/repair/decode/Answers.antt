use Rattle.std.proofs.Common.{rules, length}
use Rattle.tm_channel.specs.ColumnDecoding.{AreColumns}
use Rattle.tm_channel.proofs.Repaired.{all-decoded, none-decoded}
use Rattle.tm_channel.proofs.repair.decode.Goals as goal

pub returns-then-has_code-clause-decoded : goal.returns-then-has_code-clause-decoded
returns-then-has_code-clause-decoded g c =
    let may : AreColumns c.args.config.now (length c.read_slots.new.words) = search rules in
    all-decoded c.args.config.now c.args.slots.now c.read_slots.new.words c.decoder.new.arg3 may.0
    c.read_slots.ensures.read ((c.requires.decoder _ _ may).1 _ c.decoder.ensures)

pub returns-else-has_code-clause-decoded : goal.returns-else-has_code-clause-decoded
returns-else-has_code-clause-decoded g c =
    none-decoded c.args.config.now c.args.slots.now c.args.words.now (c.has_code.ensures.uncoded c.if-has_code.false)
