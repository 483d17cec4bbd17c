use Rattle.std.proofs.Common.{rules, ◌≡◌, ◌∙◌, w32, to_z, of_z}
use Rattle.tmchan_c.specs.declared.stream.Stream.TheVariants.{Decoder}
use Rattle.tmchan_c.proofs.Streams.{opens-as}
use Rattle.tmchan_c.proofs.decoder.tmchan_decoder_open.Goals as goal

pub returns-in-Ok-open-clause-opened : goal.returns-in-Ok-open-clause-opened
returns-in-Ok-open-clause-opened c = λ free.
    let same : c.open-in-Ok-open.result ≡ to_z w32 (of_z w32 c.open-in-Ok-open.result) = search rules in
    opens-as _ _ _ _ (Decoder c.in-Ok-open.decoder) same c.open-in-Ok-open.ensures
    (c.in-Ok-open.ensures.config ∙ c.in-Ok.ensures.ok.1, c.in-Ok-open.ensures.fresh)
