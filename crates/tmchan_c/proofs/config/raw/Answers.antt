use Rattle.std.proofs.Common.{◌∙◌, ap}
use Rattle.tmchan_c.specs.Options.{numbers_of, raw_by, set_in}
use Rattle.tmchan_c.proofs.config.raw.Goals as goal

pub returns : goal.returns
returns c =
    c.raw_by.ensures
    ∙ ap raw_by (c.set_in.ensures
    ∙ ap (λ all. set_in all c.args.options.now) (c.numbers-all.ensures ∙ ap numbers_of c.default.ensures))
