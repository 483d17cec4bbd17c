use Rattle.std.proofs.Common.{◌≡◌, ◌+◌, ◌*◌, arith, ap, ◌∙◌}
use Rattle.tm_cli.specs.Generated.{drawn}
use Rattle.tm_cli.proofs.Generating.{drawn-none, columns-none, columns-more, draws-more}
use Rattle.tm_cli.proofs.generated.change_columns.Goals as goal

pub loop-column-init : goal.loop-column-init
loop-column-init c =
    let g = c.args.draws.now in
    let none : 0 ≡ 0 * (c.args.hits + 1) = omega arith in
    record {
      codeblock = columns-none c.args.config.now c.args.hits g c.args.codeblock.now;
      draws = drawn-none g ∙ ap (λ n. drawn n g) none;
    }

pub loop-column-preserved : goal.loop-column-preserved
loop-column-preserved c =
    let g = c.args.draws.now in
    let here = c.loop-column in
    let change = c.change_column in
    record {
      codeblock =
          change.ensures.changed ∙ columns-more c.args.config.now here.column c.args.hits g here.draws
          c.args.codeblock.now here.codeblock here.invariant.codeblock here.invariant.draws;
      draws =
          draws-more here.column c.args.hits g here.draws change.new.draws here.invariant.draws change.ensures.draws;
    }
