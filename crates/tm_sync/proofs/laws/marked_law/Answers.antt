use Rattle.tm_sync.proofs.MarkedStreams.{places-marked}
use Rattle.tm_sync.proofs.laws.marked_law.Goals as goal

pub returns : goal.returns
returns c = λ rules bits entries last marked. places-marked rules bits entries last marked
