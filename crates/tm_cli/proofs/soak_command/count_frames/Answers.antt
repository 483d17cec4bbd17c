use Rattle.std.proofs.Common.{◌≤◌, arith}
use Rattle.std.proofs.lemmas.Bool.Decides.{nat_tests}
use Rattle.tm_cli.specs.Generated.{generated}
use Rattle.tm_cli.proofs.Soaking.{all-counted}
use Rattle.tm_cli.proofs.soak_command.count_frames.Goals as goal

pub pass_frames-counts-requires-clause-hits : goal.pass_frames-counts-requires-clause-hits
pass_frames-counts-requires-clause-hits g c κs within = let accepted = c.requires.accepted in grind (arith, nat_tests)

pub returns-clause-counted : goal.returns-clause-counted
returns-clause-counted g c =
    let pass = c.pass_frames-counts in
    let accepted = c.requires.accepted in
    let frames : c.args.frames ≤ 1000000 = grind (arith, nat_tests) in
    all-counted c.args.config.now pass.new.receiver pass.result c.finish-totals.new.items
    (generated c.args.config.now c.args.seed c.args.frames c.args.hits) c.finish-totals.result
    (omega (arith, frames, pass.ensures.few)) pass.ensures.handed c.finish-totals.ensures.handed
