use Rattle.std.proofs.Common.{◌≡◌, ◌+◌, length, map, take}
use Rattle.tm_windows.specs.Candidates.{AreCandidates, HaveRoom, ClosedWith, block_of, run_place}
use Rattle.tm_windows.proofs.WindowRuns.{IsFrom}
use Rattle.tm_windows.proofs.run.settle.Given as goal

abbrev pub invariant-loop-j : goal.invariant-loop-j
invariant-loop-j l = record {
  shape : l.decoder ≡ l.run.shape;
  here : IsFrom l.run l.j l.here;
  bits : HaveRoom (l.run.shape.keep + l.run.shape.ahead) l.candidates;
  left : AreCandidates l.run.shape l.run.t l.run.octets.now l.j (length l.fn.candidates) l.candidates;
  settled : ClosedWith l.run.shape (run_place l.run) (map block_of (take l.j l.candidates)) (run_place l.here);
}
