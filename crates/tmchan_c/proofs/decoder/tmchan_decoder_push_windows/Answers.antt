use Rattle.std.proofs.Common.{rules, ◌≡◌, Some, None, w64, to_z, of_z}
use Rattle.tmchan_c.specs.Refusal.{number_answer}
use Rattle.tmchan_c.specs.declared.stream.Stream.TheVariants.{Decoder}
use Rattle.tmchan_c.proofs.decoder.tmchan_decoder_push_windows.Goals as goal

pub returns-in-Decoder-clause-pushed : goal.returns-in-Decoder-clause-pushed
returns-in-Decoder-clause-pushed c =
    let fed = c.feed_windows-count in
    let held : c.args.handle.now.kept.value ≡ Some (Decoder c.in-Decoder.decoder) = search rules in
    let now : c.put.new.handle.kept.value ≡ Some (Decoder fed.new.self) = search rules in
    let answers : to_z w64 (of_z w64 c.put.result) ≡ number_answer None fed.result = search rules in
    rw (held, now) (λ given done is few bits windows.
    (fed.ensures.config, (fed.result, answers, fed.ensures.decoded given done few is bits windows)))
