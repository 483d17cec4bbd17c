use Rattle.std.proofs.Common.{rules, ◌≡◌, Some, None, w64, to_z, of_z}
use Rattle.tmchan_c.specs.Refusal.{number_answer}
use Rattle.tmchan_c.specs.declared.stream.Stream.TheVariants.{Receiver}
use Rattle.tmchan_c.proofs.receiver.tmchan_receiver_push.Goals as goal

pub returns-in-Receiver-clause-pushed : goal.returns-in-Receiver-clause-pushed
returns-in-Receiver-clause-pushed c =
    let fed = c.feed-count in
    let held : c.args.handle.now.kept.value ≡ Some (Receiver c.in-Receiver.receiver) = search rules in
    let now : c.put.new.handle.kept.value ≡ Some (Receiver fed.new.self) = search rules in
    let answers : to_z w64 (of_z w64 c.put.result) ≡ number_answer None fed.result = search rules in
    rw (held, now) (λ given done is few.
    (fed.ensures.config, (fed.result, answers, fed.ensures.received given done few is)))
