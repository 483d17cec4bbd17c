use Rattle.std.proofs.Common.{rules}
use Rattle.tm_workers.specs.Words.{DecodesErased}
use Rattle.tm_workers.specs.Working.{Leaves}
use Rattle.tm_workers.proofs.Batches.{each_as}
use Rattle.tm_workers.proofs.batch.decode_erased_batch.Goals as goal

pub returns : goal.returns
unfolding Leaves
returns g c = each_as _ (DecodesErased c.args.params.now c.args.repair) _ _ c.decode_all.ensures (λ w w' h. search rules)
