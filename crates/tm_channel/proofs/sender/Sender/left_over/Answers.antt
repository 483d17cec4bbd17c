use Rattle.std.proofs.Common.{length, ap, ◌∙◌}
use Rattle.tm_channel.specs.Sending.{Sending}
use Rattle.tm_channel.proofs.sender.Sender.left_over.Goals as goal

pub returns : goal.returns
returns c = λ given stands. ap (λ (s : Sending). length s.held) c.self.view_is ∙ ap length stands.held
