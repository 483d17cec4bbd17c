use Rattle.std.proofs.Common.{◌≡◌, vec_len}
use Rattle.std.specs.List.{All}
use Rattle.tm_windows.proofs.queue.new_decoders.Given as goal

abbrev pub invariant-loop : goal.invariant-loop
invariant-loop l = record { shape : All (λ d. d ≡ l.shape) l.decoders.items; count : vec_len l.decoders ≡ l.counter }
