use Rattle.std.proofs.Common.{◌≡◌, vec_len}
use Rattle.tm_windows.specs.Candidates.{HaveRoom}
use Rattle.tm_windows.proofs.queue.new_candidates.Given as goal

abbrev pub invariant-loop : goal.invariant-loop
invariant-loop l = record { room : HaveRoom l.steps l.candidates.items; count : vec_len l.candidates ≡ l.counter }
