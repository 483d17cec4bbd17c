use Rattle.std.proofs.Common.{◌≡◌, ◌+◌, ◌*◌, ◌++◌, ◌∷◌, [], ◌<◌, refl, sym, ap, ◌∙◌, arith, length, get_or, take, ℕ, suc}
use Rattle.std.proofs.Math.Seq.{take-suc}
use Rattle.std.proofs.lemmas.Grind.{take-set_at}
use Rattle.tm_codeblock.specs.Column.{column}
use Rattle.tm_codeblock.proofs.ColumnLaws.{column-set, column-set_other, same_whole, length-column}
use Rattle.tm_codeblock.proofs.columns.put_word.Goals as goal

pub loop-k-preserved : goal.loop-k-preserved
loop-k-preserved c =
    let k : ℕ = c.loop-k.k in
    let symbol : ℕ = get_or c.args.word.now k 0 in
    let some : 0 < c.args.depth = omega arith in
    let place : k * c.args.depth + c.args.i ≡ c.args.i + k * c.args.depth = omega arith in
    let long = length-column c.args.depth (length c.args.word.now) c.args.i c.loop-k.block c.requires.column
    (c.loop-k.auto.block ∙ c.requires.size) in
    let one : suc k ≡ k + 1 = omega arith in
    record {
      put =
          ap (take (k + 1)) (column-set c.args.depth c.args.i k
          (k * c.args.depth + c.args.i) c.loop-k.block symbol some place)
          ∙ take-set_at (column c.args.depth c.args.i c.loop-k.block) k (k + 1) symbol refl (omega (arith, long))
          ∙ ap (λ l. l ++ symbol ∷ []) c.loop-k.invariant.put
          ∙ sym (take-suc c.args.word.now k 0 (omega arith)) ∙ ap (λ n. take n c.args.word.now) one;
      others =
          λ j below other. column-set_other c.args.depth c.args.i j k
          (k * c.args.depth + c.args.i) c.loop-k.block symbol c.requires.column below other place
          ∙ c.loop-k.invariant.others j below other;
    }

pub returns-clause-put : goal.returns-clause-put
returns-clause-put c =
    same_whole c.loop-k.k _ _
    (length-column c.args.depth (length c.args.word.now) c.args.i c.loop-k.block c.requires.column
    (c.loop-k.auto.block ∙ c.requires.size) ∙ omega arith) (omega arith) c.loop-k.invariant.put
