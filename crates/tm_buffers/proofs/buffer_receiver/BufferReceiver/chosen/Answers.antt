use Rattle.std.proofs.Common.{sym, subst}
use Rattle.tm_channel.specs.OctetReceiving.{OctetReceiving, ReceiverStandsFor}
use Rattle.tm_inner.specs.Phase.{IsChosenSoFar}
use Rattle.tm_buffers.proofs.buffer_receiver.BufferReceiver.chosen.Goals as goal

pub returns-clause-so_far : goal.returns-clause-so_far
returns-clause-so_far c = λ given done is.
    subst (λ (r : OctetReceiving). IsChosenSoFar r.config given c.chosen.result) c.self.view_is
    (c.chosen.ensures.so_far given done (subst (λ (r : OctetReceiving). ReceiverStandsFor r given done)
    (sym c.self.view_is) is.stands))
