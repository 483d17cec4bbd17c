use Rattle.tm_windows.proofs.WindowRuns.{DecodedTo}
use Rattle.tm_windows.proofs.run.decode_each.Given as goal

abbrev pub invariant-loop-j : goal.invariant-loop-j
invariant-loop-j g l = DecodedTo l.run l.j l.here l.decoder l.candidates
