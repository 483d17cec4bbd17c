use Rattle.std.proofs.Common.{get_or}
use Rattle.boxcar.specs.Table.{first}
use Rattle.tm_workers.specs.Working.{Leaves}
use Rattle.tm_workers.proofs.batch.decode_start.Given as goal

abbrev pub ghosts-decode_drawn : goal.ghosts-decode_drawn
ghosts-decode_drawn g a = record {
  holds = λ tag result. Leaves g.F.Fn a.decode.now (get_or a.words.now (first tag) result.word) result.word;
}
