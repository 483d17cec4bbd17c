use Rattle.std.proofs.Common.{◌∙◌, ap, sym, Bool}
use Rattle.tm_sync.specs.Places.{wrong_bits}
use Rattle.tm_sync.proofs.Matches.{wrong-inverted}
use Rattle.tm_sync.proofs.search.distance_of.Goals as goal

pub returns-then-inverted : goal.returns-then-inverted
returns-then-inverted c =
    λ bits long is. wrong-inverted _ bits long is ∙ ap (λ (v : Bool). wrong_bits v bits) (sym c.if-inverted.true)

pub returns-else-inverted : goal.returns-else-inverted
returns-else-inverted c = λ bits long is. is ∙ ap (λ (v : Bool). wrong_bits v bits) (sym c.if-inverted.false)
