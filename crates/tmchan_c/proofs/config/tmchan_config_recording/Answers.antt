use Rattle.std.proofs.Common.{◌∙◌, ap}
use Rattle.tmchan_c.specs.Options.{numbers_of, recording_of, set_in}
use Rattle.tmchan_c.proofs.config.tmchan_config_recording.Goals as goal

pub returns : goal.returns
returns c =
    c.set_in.ensures ∙ ap (set_in c.args.options.now) (c.numbers.ensures
    ∙ ap numbers_of (c.recording-raw.ensures ∙ ap recording_of c.raw.ensures))
