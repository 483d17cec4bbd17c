use Rattle.std.proofs.Common.{◌≡◌, ◌++◌, ◌*◌, List, ℕ, length, arith, ap, ◌∙◌}
use Rattle.std.proofs.lemmas.Grind.{common_steps}
use Rattle.tm_config.specs.Accepted.{IsAccepted}
use Rattle.tm_config.specs.Configuration.{correctable}
use Rattle.tm_config.specs.declared.values.OuterCode.TheVariants.{Uncoded}
use Rattle.tm_codeblock.proofs.Codeblocks.{codeblock-is, codeblock-uncoded}
use Rattle.tm_codeblock.proofs.cadus.write_codeblock.Goals as goal

pub returns-then-is_coded : goal.returns-then-is_coded
returns-then-is_coded c =
    let config = c.args.config.now in
    let accepted : IsAccepted config = c.has_code-is_coded.ensures.accepted in
    let room : length c.write_checks.new.checks ≡ config.depth * (2 * correctable config.code) =
    grind (arith, common_steps, c.write_checks.ensures.length, c.split_at_mut-data.ensures.back_len) in
    ap (λ (l : List ℕ). l ++ c.write_checks.new.checks) c.copy_from_slice.ensures.after
    ∙ codeblock-is config c.args.frame.now c.write_checks.new.checks
    (c.has_code-is_coded.ensures.coded c.if-is_coded.true) accepted.some_depth
    (c.requires.frame ∙ accepted.whole) room c.write_checks.ensures.columns

pub returns-else-is_coded : goal.returns-else-is_coded
returns-else-is_coded c =
    let config = c.args.config.now in
    let none : config.code ≡ Uncoded = c.has_code-is_coded.ensures.uncoded c.if-is_coded.false in
    let empty : length c.split_at_mut-data.result.1.now ≡ 0 =
    grind (arith, common_steps, c.split_at_mut-data.ensures.back_len, none) in
    ap (λ (l : List ℕ). l ++ c.split_at_mut-data.result.1.now) c.copy_from_slice.ensures.after
    ∙ codeblock-uncoded config c.args.frame.now c.split_at_mut-data.result.1.now none empty
