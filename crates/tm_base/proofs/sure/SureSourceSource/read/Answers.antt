use Rattle.std.proofs.Common.{◌++◌, take, drop, ap, sym, Some, arith, ◌∙◌}
use Rattle.std.proofs.lemmas.Grind.{common_steps}
use Rattle.tm_base.specs.SureState.{SureState}
use Rattle.tm_base.proofs.InMemory.{gave, leaves}
use Rattle.tm_base.proofs.sure.SureSourceSource.read.Goals as goal

pub returns-clause-given : goal.returns-clause-given
returns-clause-given c =
    ap Some (gave c.self.inside.at c.min-count.result c.self.inside.content.items c.copy_from_slice.new.self
    (drop c.min-count.result c.args.buf.now) (grind (arith, common_steps))
    (c.copy_from_slice.ensures.after ∙ grind (arith, common_steps))
    ∙ ap (λ (s : SureState). s.given ++ take c.min-count.result
    (c.copy_from_slice.new.self ++ drop c.min-count.result c.args.buf.now)) c.self.view_is)

pub returns-clause-left : goal.returns-clause-left
returns-clause-left c =
    ap Some (sym (ap (λ (s : SureState). s.left) c.self.view_is)
    ∙ leaves c.self.inside.at c.min-count.result c.self.inside.content.items c.copy_from_slice.new.self
    (drop c.min-count.result c.args.buf.now) (grind (arith, common_steps))
    (c.copy_from_slice.ensures.after ∙ grind (arith, common_steps)))
