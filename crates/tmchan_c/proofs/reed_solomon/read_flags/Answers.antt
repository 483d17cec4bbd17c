use Rattle.std.proofs.Common.{◌∙◌, arith}
use Rattle.tm_rs.proofs.Flags.{flags-read}
use Rattle.tmchan_c.proofs.reed_solomon.read_flags.Goals as goal

pub returns : goal.returns
returns c =
    flags-read c.args.flags.now c.loop-i.erased (c.loop-i.auto.erased ∙ c.requires)
    (λ i b below. c.loop-i.invariant i b (omega (arith, c.loop-i.auto.erased)))
