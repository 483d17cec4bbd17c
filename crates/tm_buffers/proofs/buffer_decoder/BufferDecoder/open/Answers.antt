use Rattle.std.proofs.Common.{arith, [], subst, sym}
use Rattle.tm_config.specs.Configuration.{Configuration}
use Rattle.tm_inner.specs.Handing.{AreHandedDue}
use Rattle.tm_inner.proofs.HandedBits.{handed-due-none}
use Rattle.tm_buffers.proofs.buffer_decoder.BufferDecoder.open.Goals as goal

pub returns-clause-fresh : goal.returns-clause-fresh
returns-clause-fresh c =
    let opened = c.in_ok-inner.ensures in
    let accepted = c.keep-keep.ensures.accepted in
    record {
      going = opened.going;
      stands = opened.stands;
      due =
          subst (λ (k : Configuration). AreHandedDue k [] []) (sym opened.config)
          (handed-due-none c.args.config (omega (arith, accepted.some_keep)));
    }
