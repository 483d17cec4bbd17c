use Rattle.tm_workers.proofs.results.result_of.Goals as goal

pub set-requires : goal.set-requires
set-requires g c = (c.requires.slot _).0 c.decode_one.ensures
