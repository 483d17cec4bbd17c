use Rattle.std.proofs.Common.{◌≡◌, ◌<◌, Some, take}
use Rattle.std.specs.Prelude.{IfSome}
use Rattle.tm_conv.specs.Path.{registers}
use Rattle.tm_windows.specs.Queue.{Queueing}
use Rattle.tm_inner.specs.InnerDecoding.{ready_in}
use Rattle.tm_path_commands.specs.Certifying.{starts_after}
use Rattle.tm_path_commands.proofs.CertifiedWindows.{GavePart}
use Rattle.tm_path_commands.proofs.certify_command.certify_ready.Given as goal

abbrev pub invariant-loop-index : goal.invariant-loop-index
invariant-loop-index g l = record {
  small : IfSome l.start (λ register. register < registers);
  next : l.start ≡ starts_after l.initial.start (take l.index (ready_in l.inner.queue));
  gave : (q : Queueing) × (l.inner.queue ≡ Some q) × GavePart g.W.TextTaker.took q l.initial.start l.index
      l.initial.texts l.texts;
}
