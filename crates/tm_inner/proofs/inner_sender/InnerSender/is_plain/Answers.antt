use Rattle.std.proofs.Common.{◌∙◌, subst, sym}
use Rattle.tm_inner.specs.Sending.{InnerMakes, InnerSending}
use Rattle.tm_inner.proofs.Sending.{plain-makes}
use Rattle.tm_inner.proofs.inner_sender.InnerSender.is_plain.Goals as goal

pub returns-then-is_none-clause-same : goal.returns-then-is_none-clause-same
returns-then-is_none-clause-same c = λ packed octets small.
    subst (λ (s : InnerSending). InnerMakes s s octets octets) c.self.view_is
    (plain-makes _ octets c.self.invariant c.if-is_none.ensures (sym packed ∙ c.is_packed.ensures) small)
