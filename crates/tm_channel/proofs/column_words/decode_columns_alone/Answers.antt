use Rattle.std.proofs.Common.{ℕ, subst}
use Rattle.tm_workers.specs.Batch.{EachBecomes}
use Rattle.tm_workers.specs.Words.{Decodes}
use Rattle.tm_channel.proofs.column_words.decode_columns_alone.Goals as goal

pub returns : goal.returns
returns c = (
  c.params_of-params.result,
  c.params_of-params.ensures.e,
  c.params_of-params.ensures.n,
  subst (λ (r : ℕ). EachBecomes (Decodes c.params_of-params.result r) c.args.words.now c.decode_in_order.new.words)
      c.repair.ensures.value c.decode_in_order.ensures,
)
