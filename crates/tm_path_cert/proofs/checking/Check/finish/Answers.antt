use Rattle.std.proofs.Common.{length, sym, ap, ◌∙◌}
use Rattle.tm_path_cert.specs.Checking.{Checking}
use Rattle.tm_path_cert.proofs.Bounds.{finish-least}
use Rattle.tm_path_cert.proofs.checking.Check.finish.Goals as goal

pub returns-then-sum-metric-clause-least : goal.returns-then-sum-metric-clause-least
returns-then-sum-metric-clause-least c = λ given stands yes initial others candidate.
    finish-least c.args.self given c.args.metric (length c.args.bits.now) initial others c.self.inside.last stands
    (ap (λ (e : Checking). e.wrong) (sym c.self.view_is) ∙ c.in_default.is) c.requires.columns
    (ap (λ (e : Checking). e.last) (sym c.self.view_is)) c.in_default-first_less.ensures c.requires.steps candidate
