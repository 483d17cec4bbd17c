use denote.Enum.Bare.{same_true}
use Rattle.std.proofs.Common.{◌∙◌, ap, arith, rules, sym}
use Rattle.tm_config.specs.declared.values.Values.{Values}
use Rattle.tm_config.specs.contracts.values.Sought.{the_type}
use Rattle.tm_inner.proofs.DecoderCalls.{opened}
use Rattle.tm_inner.proofs.decoder.InnerDecoder.open.Goals as goal

pub returns-clause-stands : goal.returns-clause-stands
returns-clause-stands c =
    let config = c.args.config.now in
    let h = c.in_ok-queue.ensures in
    opened config c.in_ok-queue.queue c.eq.result h.of h.stands.0 h.stands.1 h.stands.2
    (omega (arith, c.values.ensures.accepted.some_keep))
    (λ has. ap (λ (v : Values). v.phase) (sym c.values.ensures.value)
    ∙ same_true the_type (search rules) _ _ (sym c.eq.ensures ∙ has))
