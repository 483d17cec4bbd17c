use Rattle.std.proofs.Common.{◌≡◌, ◌≢◌, ◌∙◌, sym, ap, arith}
use Rattle.tm_config.specs.Configuration.{Configuration, correctable}
use Rattle.tm_config.specs.declared.values.OuterCode.TheVariants.{Uncoded}
use Rattle.tm_config.proofs.Lengths.{word_length-le}
use Rattle.tm_config.proofs.config.Config.word_length.Goals as goal

pub returns-clause-fits : goal.returns-clause-fits
returns-clause-fits c = λ some.
    let values = c.self.inside.values in
    let same : correctable c.args.self.now.code ≡ c.correctable.result =
    ap (λ (v : Configuration). correctable v.code) (sym c.self.view_is) ∙ sym c.correctable.ensures in
    let coded : values.code ≢ Uncoded = λ is. some (ap (λ (v : Configuration). v.code) (sym c.self.view_is) ∙ is) in (
      omega (arith, same, c.self.invariant.some_data),
      rw c.correctable.ensures
          (word_length-le values c.self.invariant coded),
    )
