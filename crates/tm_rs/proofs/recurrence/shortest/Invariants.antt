use Rattle.std.proofs.Common.{◌≡◌, ◌≤◌, ◌+◌, ◌*◌, length}
use Rattle.tm_gf256.specs.Poly.{entry}
use Rattle.tm_rs.specs.State.{IsState}
use Rattle.tm_rs.proofs.recurrence.shortest.Given as goal

abbrev pub invariant-loop-k : goal.invariant-loop-k
invariant-loop-k g l = record {
  held : IsState l.count (entry l.terms) (entry l.state.current)
      (entry l.state.previous) l.state.len l.state.gap l.state.scale.0 l.k;
  room : length l.state.current ≡ 17;
  before : length l.state.previous ≡ 17;
  counted : l.steps ≤ l.initial.steps + l.k * (l.count + 3);
  later : l.initial.steps ≤ l.steps;
}
