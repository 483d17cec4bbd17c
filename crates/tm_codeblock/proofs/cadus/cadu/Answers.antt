use Rattle.std.proofs.Common.{sym, ◌∙◌}
use Rattle.tm_codeblock.proofs.Codeblocks.{unit-masked, unit-plain}
use Rattle.tm_codeblock.proofs.cadus.cadu.Goals as goal

pub returns-then-is_randomized : goal.returns-then-is_randomized
returns-then-is_randomized c =
    unit-masked c.args.config.now c.args.frame.now _ _ _
    (sym c.is_randomized.ensures ∙ c.if-is_randomized.true) c.copy_from_slice.ensures.after
    c.write_codeblock.ensures c.mask.ensures

pub returns-else-is_randomized : goal.returns-else-is_randomized
returns-else-is_randomized c =
    unit-plain c.args.config.now c.args.frame.now _ _
    (sym c.is_randomized.ensures ∙ c.if-is_randomized.false) c.copy_from_slice.ensures.after
    c.write_codeblock.ensures
