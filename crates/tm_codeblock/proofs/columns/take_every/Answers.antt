use Rattle.std.proofs.Common.{◌+◌, ◌*◌, ◌++◌, ◌∷◌, [], refl, sym, ap, ◌∙◌, arith, length, get_or}
use Rattle.std.proofs.lemmas.Grind.{take-set_at}
use Rattle.tm_codeblock.proofs.ColumnLaws.{take-column, same_whole, length-column}
use Rattle.tm_codeblock.proofs.columns.take_every.Goals as goal

pub loop-k-preserved : goal.loop-k-preserved
loop-k-preserved c =
    take-set_at c.loop-k.out c.loop-k.k (c.loop-k.k + 1) (get_or c.args.block.now
    (c.loop-k.k * c.args.depth + c.args.i) 0) refl (omega arith)
    ∙ ap (λ l. l ++ get_or c.args.block.now (c.loop-k.k * c.args.depth + c.args.i) 0 ∷ []) c.loop-k.invariant
    ∙ sym (take-column c.args.depth (length c.args.out.now) c.args.i c.loop-k.k c.args.block.now c.requires.column
    c.requires.size (omega arith))

pub returns : goal.returns
returns c =
    same_whole c.loop-k.k _ _ (omega arith)
    (length-column c.args.depth (length c.args.out.now) c.args.i c.args.block.now c.requires.column c.requires.size
    ∙ omega arith) c.loop-k.invariant
