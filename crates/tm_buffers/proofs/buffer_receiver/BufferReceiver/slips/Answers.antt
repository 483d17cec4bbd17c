use Rattle.std.proofs.Common.{sym, subst}
use Rattle.tm_channel.specs.OctetReceiving.{AreSlipsSoFar, OctetReceiving, ReceiverStandsFor}
use Rattle.tm_buffers.proofs.buffer_receiver.BufferReceiver.slips.Goals as goal

pub returns : goal.returns
returns c = λ given done is.
    subst (λ (r : OctetReceiving). AreSlipsSoFar r.config given done c.slips.result) c.self.view_is
    (c.slips.ensures given done
    (subst (λ (r : OctetReceiving). ReceiverStandsFor r given done) (sym c.self.view_is) is.stands))
