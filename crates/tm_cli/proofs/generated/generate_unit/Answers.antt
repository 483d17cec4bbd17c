use Rattle.std.proofs.Common.{◌≡◌, drop, arith}
use Rattle.std.proofs.lemmas.Grind.{common_steps}
use Rattle.tm_cli.specs.Generated.{drawn, drawn_octets, changed_columns}
use Rattle.tm_cli.proofs.Generating.{after-marker, unit-is, draws-unit}
use Rattle.tm_cli.proofs.generated.generate_unit.Goals as goal

pub returns-clause-unit : goal.returns-clause-unit
returns-clause-unit c =
    let config = c.args.config.now in
    let g = c.args.draws.now in
    let unit = c.cadu.new.out in
    let codeblock = c.change_columns.new.codeblock in
    let after = c.draw_octets.new.draws in
    let drew : c.draw_octets.new.octets ≡ drawn_octets config.frame_length g = grind (arith, common_steps) in
    let stand : after ≡ drawn config.frame_length g = grind (arith, common_steps) in
    let change : codeblock ≡ changed_columns config config.depth c.args.hits after (drop 4 unit) =
    grind (arith, common_steps, c.change_columns.ensures.changed) in
    unit-is config c.args.hits g after c.draw_octets.new.octets unit _ codeblock drew c.cadu.ensures stand change
    (after-marker unit codeblock)

pub returns-clause-draws : goal.returns-clause-draws
returns-clause-draws c =
    let config = c.args.config.now in
    let g = c.args.draws.now in
    let after = c.draw_octets.new.draws in
    let stand : after ≡ drawn config.frame_length g = grind (arith, common_steps) in
    draws-unit config c.args.hits g after c.change_columns.new.draws stand c.change_columns.ensures.draws
