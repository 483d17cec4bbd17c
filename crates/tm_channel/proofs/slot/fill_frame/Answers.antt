use Rattle.std.proofs.Common.{◌∙◌, ap, arith, take}
use Rattle.std.proofs.lemmas.Grind.{common_steps}
use Rattle.std.proofs.lemmas.List.{take_at}
use Rattle.tm_codeblock.specs.ReceivedCodeblock.{frame_of}
use Rattle.tm_channel.specs.ColumnWords.{all_symbols}
use Rattle.tm_channel.proofs.Repaired.{plain-frame}
use Rattle.tm_channel.proofs.slot.fill_frame.Goals as goal

pub returns-then-has_code : goal.returns-then-has_code
returns-then-has_code c =
    take_at c.write_frame.new.frame _ c.args.config.now.frame_length
    (grind (arith, common_steps, c.write_frame.auto.frame, c.length-size.ensures.value)) ∙ c.write_frame.ensures
    ∙ (λ k. frame_of c.args.config.now (take (c.codeblock_size.ensures.value k) c.args.octets.now)
    (all_symbols c.args.config.now c.args.words.now))

pub returns-else-has_code : goal.returns-else-has_code
returns-else-has_code c =
    ap (take c.args.config.now.frame_length) c.copy_from_slice.ensures.after
    ∙ plain-frame c.args.config.now c.args.octets.now _ (c.has_code.ensures.uncoded c.if-has_code.false)
    c.length-size.ensures.accepted.whole
