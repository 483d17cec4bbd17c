use Rattle.std.proofs.Common.{ℕ, ◌+◌, ◌%◌}
use Rattle.tm_base.proofs.SoftForms.{converted-more}
use Rattle.tm_base.proofs.soft_form.to_unsigned.Goals as goal

pub loop-k-preserved : goal.loop-k-preserved
loop-k-preserved c =
    converted-more (λ (octet : ℕ). (octet + 128) % 256) c.loop-k.k c.args.octets.now c.loop-k.octets
    c.loop-k-test.true c.loop-k.invariant
