use Rattle.std.proofs.Common.{◌≡◌, ◌+◌, ◌-◌, ◌*◌, ◌<◌, ◌≤◌, length, take}
use Rattle.std.specs.Prelude.{IfSome}
use Rattle.tm_conv.specs.Path.{registers}
use Rattle.tm_driver.specs.Staged.{Takes}
use Rattle.tm_inner.specs.InnerDecoding.{IsSettledQueue, held_in}
use Rattle.tm_path_commands.specs.Certifying.{Certifies, certifier}
use Rattle.tm_path_commands.proofs.certify_command.certify_octets.Given as goal

abbrev pub invariant-runs : goal.invariant-runs
invariant-runs g l = record {
  within : l.done ≤ length l.octets;
  config : l.inner.config ≡ l.fn.inner.config;
  ended : l.inner.has_ended ≡ l.fn.inner.has_ended;
  still : length l.octets ≡ 0 → IsSettledQueue l.fn.inner.queue → IsSettledQueue l.inner.queue;
  small : IfSome l.start (λ register. register < registers);
  gave : Takes g.W.TextTaker.took (λ _. Certifies) (λ _. Certifies) (certifier l.fn.inner l.fn.start)
      (certifier l.inner l.start) l.fn.texts l.texts (take l.done l.octets);
}

abbrev pub decreases-runs : goal.decreases-runs
decreases-runs g l = 2 * (length l.octets - l.done) + length (held_in l.inner.queue)
