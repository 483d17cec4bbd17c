use Rattle.std.proofs.Common.{◌∙◌, ap, arith, take, drop}
use Rattle.std.proofs.lemmas.List.{take_rest}
use Rattle.std.proofs.lemmas.Grind.{common_steps}
use Rattle.std.specs.Io.KnownBytes.{append_known}
use Rattle.tm_base.proofs.Known.{append_known-take}
use Rattle.tm_base.proofs.outside.put_all.Goals as goal

pub loop-done-preserved : goal.loop-done-preserved
loop-done-preserved g c = record {
  within = grind (arith, common_steps);
  taken =
      (rw (take_rest c.args.piece.now c.loop-done.done) at c.in-Ok.ensures.taken)
      ∙ ap (λ known. append_known known (take c.in-Ok.count (drop c.loop-done.done c.args.piece.now)))
      c.loop-done.invariant.taken
      ∙ append_known-take (g.O.Sink.taken c.args.out.now) c.loop-done.done c.in-Ok.count c.args.piece.now;
  faults = grind (arith, common_steps);
}
