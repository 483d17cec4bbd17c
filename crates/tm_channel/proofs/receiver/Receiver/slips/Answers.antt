use Rattle.std.proofs.Common.{sym, subst}
use Rattle.std.proofs.lemmas.List.{append-nil}
use Rattle.tm_inner.specs.InnerDecoding.{InnerDecoderStandsFor}
use Rattle.tm_channel.specs.OctetReceiving.{OctetReceiving, ReceiverStandsFor, AreSlipsSoFar}
use Rattle.tm_channel.proofs.receiver.Receiver.slips.Goals as goal

pub returns : goal.returns
returns c = λ given done stood.
    let here = subst (λ (r : OctetReceiving). ReceiverStandsFor r given done) (sym c.self.view_is) stood in
    subst (λ (r : OctetReceiving). AreSlipsSoFar r.config given done c.slips.result) c.self.view_is (
      _,
      c.self.invariant.0,
      here,
      c.slips.ensures given here.blocks
          (subst (InnerDecoderStandsFor c.self.inside.inner given) (append-nil here.blocks) here.progress.inner),
    )
