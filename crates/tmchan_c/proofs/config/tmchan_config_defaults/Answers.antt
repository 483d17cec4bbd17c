use Rattle.std.proofs.Common.{rules, ◌∙◌, ap, length, replicate}
use Rattle.tmchan_c.specs.Options.{numbers_of, set_in}
use Rattle.tmchan_c.proofs.config.tmchan_config_defaults.Goals as goal

pub returns : goal.returns
returns c =
    c.set_in.ensures ∙ ap (λ array. set_in array c.numbers.result) (c.fill.ensures.after (λ y is. search rules))
    ∙ ap (set_in (replicate (length c.args.options.now) 0)) (c.numbers.ensures ∙ ap numbers_of c.default.ensures)
