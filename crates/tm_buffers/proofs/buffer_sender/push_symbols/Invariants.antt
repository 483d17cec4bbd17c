use Rattle.std.proofs.Common.{◌+◌, ◌-◌, ◌≤◌, [], Some, length, take}
use Rattle.tm_channel.specs.Sending.{Sends, most_made}
use Rattle.tm_buffers.proofs.buffer_sender.push_symbols.Given as goal

abbrev pub invariant-loop-done : goal.invariant-loop-done
invariant-loop-done l = record {
  within : l.done ≤ length l.octets;
  few : l.count + most_made l.sender (length l.octets - l.done) ≤ length l.symbols;
  sent : Sends l.fn.sender l.sender (Some []) (Some (take l.count l.symbols)) (take l.done l.octets);
}

abbrev pub decreases-loop-done : goal.decreases-loop-done
decreases-loop-done l = length l.octets - l.done
