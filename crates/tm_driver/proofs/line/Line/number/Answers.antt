use Rattle.std.proofs.Common.{◌++◌, ◌∙◌, ap, sym}
use Rattle.std.proofs.lemmas.Fmt.{decimal_digit}
use Rattle.tm_driver.proofs.line.Line.number.Goals as goal

pub returns-then-number-lt10-clause-text : goal.returns-then-number-lt10-clause-text
returns-then-number-lt10-clause-text c =
    c.text.ensures
    ∙ ap (λ l. c.args.self.now ++ l) (sym (decimal_digit c.args.number c.if-number-lt10.true))
