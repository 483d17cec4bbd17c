use Rattle.std.proofs.Common.{sym, subst}
use Rattle.tm_inner.specs.Sending.{InnerSenderStandsFor}
use Rattle.tm_channel.proofs.Sending.{cadus-none, nothing-held}
use Rattle.tm_channel.proofs.sender.Sender.new.Goals as goal

pub returns-clause-stands : goal.returns-clause-stands
returns-clause-stands c = record {
  held = nothing-held c.args.config.frame_length;
  inner = subst (InnerSenderStandsFor c.new.result) (sym (cadus-none c.args.config)) c.new.ensures.stands;
}
