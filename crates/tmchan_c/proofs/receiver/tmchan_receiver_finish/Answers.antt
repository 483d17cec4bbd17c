use Rattle.std.proofs.Common.{rules, ◌≡◌, ◌∙◌, Some, None, w64, to_z, of_z}
use Rattle.tmchan_c.specs.Refusal.{number_answer}
use Rattle.tmchan_c.specs.declared.stream.Stream.TheVariants.{Receiver}
use Rattle.tmchan_c.proofs.receiver.tmchan_receiver_finish.Goals as goal

pub returns-in-Receiver-clause-finished : goal.returns-in-Receiver-clause-finished
returns-in-Receiver-clause-finished c =
    let ended = c.finish-count in
    let held : c.args.handle.now.kept.value ≡ Some (Receiver c.in-Receiver.receiver) = search rules in
    let answers : to_z w64 (of_z w64 c.number_answer.result) ≡ number_answer None ended.result = search rules in
    rw held (λ given done is. (
      c.take.ensures.left,
      (
        ended.new.self,
        c.phase_state.ensures ∙ c.chosen.ensures.value,
        (_, c.totals_state.ensures, (ended.result, answers, ended.ensures.received given done is)),
      ),
    ))
