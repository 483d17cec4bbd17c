use Rattle.std.proofs.Common.{subst}
use Rattle.tm_conv.specs.Columns.{IsColumn}
use Rattle.tm_viterbi.specs.Starts.{starts_from}
use Rattle.tm_viterbi.specs.Summing.{Summing, SumsFor}
use Rattle.tm_viterbi.proofs.LeastTotals.{IsColumn-from_sums}
use Rattle.tm_viterbi.proofs.sums.Sums.column.Goals as goal

pub returns-clause-least : goal.returns-clause-least
returns-clause-least c given stands =
    let P : Summing → Type 0 = λ s. SumsFor s given → IsColumn
    (starts_from s.start) s.rate s.invert s.first given c.self.inside.column in
    subst P c.self.view_is (λ is. IsColumn-from_sums _ given is c.self.told) stands
