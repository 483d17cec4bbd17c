use Rattle.std.proofs.Common.{refl}
use Rattle.std.proofs.lemmas.Result.{IfOk-weaker}
use Rattle.tm_driver.proofs.Answered.{answered-alone}
use Rattle.tm_driver.proofs.TwoSinks.{second-alone}
use Rattle.tm_cli.proofs.Reports.{report-ends}
use Rattle.tm_cli.proofs.decode_command.report.Goals as goal

pub returns-clause-answered : goal.returns-clause-answered
returns-clause-answered g c = IfOk-weaker c.decode.result _ _ (λ ending r.
    answered-alone r.0 _ _ _ _ _ _ refl r.1.gave r.1.at_most
    (λ noted. report-ends c.args.config.now _ noted ending c.args.config.now.limit r.0 r.1.ends) (r.1.course refl)
    (second-alone _ _ _ r.1.sinks)) c.decode.ensures.answered
