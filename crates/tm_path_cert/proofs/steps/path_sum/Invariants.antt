use Rattle.std.proofs.Common.{◌≡◌, ◌≤◌, ◌<◌, length, ◌+◌, ◌-◌, ◌*◌, drop}
use Rattle.tm_conv.specs.Path.{steps_size, path}
use Rattle.tm_conv.specs.Cost as metric
use Rattle.tm_path_cert.proofs.steps.path_sum.Given as goal

abbrev pub invariant-loop-i : goal.invariant-loop-i
invariant-loop-i l = record {
  register : l.now < 64;
  within : l.place ≤ length l.soft;
  left : length l.soft - l.place ≡ steps_size l.rate (l.first + l.i) (length l.bits - l.i);
  small : l.sum ≤ 510 * l.i;
  sum : l.sum + metric.cost (path l.rate l.invert (l.first + l.i) l.now (drop l.i l.bits)) (drop l.place l.soft)
      ≡ metric.cost (path l.rate l.invert l.first l.register l.bits) l.soft;
}
