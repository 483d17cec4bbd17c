use Rattle.std.proofs.Common.{◌≡◌, ◌+◌, ◌-◌, ◌≤◌, length, take}
use Rattle.tm_conv.specs.Path.{steps_size}
use Rattle.tm_viterbi.specs.Summing.{SumsFor}
use Rattle.tm_cert_file.proofs.ColumnLists.{TookColumns}
use Rattle.tm_cert_file.proofs.writing.write_columns.Given as goal

abbrev pub invariant-loop-at : goal.invariant-loop-at
invariant-loop-at g l = record {
  at : l.at ≡ steps_size l.rate l.first l.sums.steps;
  within : l.at ≤ length l.octets;
  t : l.t ≡ l.first + l.sums.steps;
  began : (l.sums.rate ≡ l.rate) × (l.sums.invert ≡ l.invert) × (l.sums.first ≡ l.first) × (l.sums.start ≡ l.fn.start);
  stands : SumsFor l.sums (take l.at l.octets);
  took : TookColumns g.W.TextTaker.took l.rate l.invert l.fn.start l.first l.sums.steps l.octets l.fn.texts l.texts;
}

abbrev pub decreases-loop-at : goal.decreases-loop-at
decreases-loop-at g l = length l.octets - l.at
