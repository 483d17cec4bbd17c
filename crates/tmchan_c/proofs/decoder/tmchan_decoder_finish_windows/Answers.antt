use Rattle.std.proofs.Common.{rules, ◌≡◌, ◌∙◌, Some, None, w64, to_z}
use Rattle.tmchan_c.specs.Refusal.{number_answer}
use Rattle.tmchan_c.specs.declared.stream.Stream.TheVariants.{Decoder}
use Rattle.tmchan_c.proofs.decoder.tmchan_decoder_finish_windows.Goals as goal

pub returns-in-Some-finish_windows-clause-finished : goal.returns-in-Some-finish_windows-clause-finished
returns-in-Some-finish_windows-clause-finished c =
    let ended = c.in-Some-finish_windows in
    let held : c.args.handle.now.kept.value ≡ Some (Decoder c.in-Decoder.decoder) = search rules in
    let answers : to_z w64 ended.count ≡ number_answer None (Some ended.count) = search rules in
    rw held (λ given done is bits windows. (
      c.take.ensures.left,
      (
        c.finish_windows.new.self,
        c.phase_state.ensures ∙ c.chosen.ensures.value,
        (Some ended.count, answers, ended.ensures.decoded given done is bits windows),
      ),
    ))

pub returns-in-None-clause-finished : goal.returns-in-None-clause-finished
returns-in-None-clause-finished c =
    let held : c.args.handle.now.kept.value ≡ Some (Decoder c.in-Decoder.decoder) = search rules in
    rw held (λ given done is bits windows. absurd (c.in-None.ensures.decoded given done is bits windows).0.fills)
