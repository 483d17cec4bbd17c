use Rattle.tm_path_commands.proofs.Certificates.{shows-least, passes-certified}
use Rattle.tm_path_commands.proofs.certificate.certificate_law.Goals as goal

pub returns-clause-shown : goal.returns-clause-shown
returns-clause-shown c = shows-least c.shown_law.ensures.shown

pub returns-clause-passes : goal.returns-clause-passes
returns-clause-passes c = passes-certified c.read_law.ensures.one c.passes_law.ensures
