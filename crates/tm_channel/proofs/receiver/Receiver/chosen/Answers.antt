use Rattle.std.proofs.Common.{ℕ, List, sym, subst}
use Rattle.tm_base.specs.Handed.{Handed}
use Rattle.tm_config.specs.Configuration.{Configuration}
use Rattle.tm_inner.specs.Phase.{IsChosenSoFar}
use Rattle.tm_channel.specs.Items.{ItemValue}
use Rattle.tm_channel.specs.OctetReceiving.{OctetReceiving, ReceiverStandsFor}
use Rattle.tm_channel.proofs.receiver.Receiver.chosen.Goals as goal

pub returns-clause-so_far : goal.returns-clause-so_far
returns-clause-so_far c =
    subst (λ (r : OctetReceiving). (given : List ℕ) (done : List (Handed ItemValue)) → ReceiverStandsFor r given done
    → IsChosenSoFar r.config given c.chosen.result) c.self.view_is
    (λ given done stood. subst (λ (k : Configuration). IsChosenSoFar k given c.chosen.result) c.self.invariant.0
    (subst (IsChosenSoFar c.self.inside.inner.config given) (sym c.chosen.ensures) stood.so_far))
