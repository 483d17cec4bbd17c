use Rattle.std.proofs.Common.{rules, ◌≡◌, Some}
use Rattle.tmchan_c.specs.declared.stream.Stream.TheVariants.{Receiver}
use Rattle.tmchan_c.proofs.receiver.tmchan_receiver_phase.Goals as goal

pub returns-in-Receiver-clause-reported : goal.returns-in-Receiver-clause-reported
returns-in-Receiver-clause-reported c =
    let held : c.args.handle.now.kept.value ≡ Some (Receiver c.in-Receiver.receiver) = search rules in
    rw held (λ given done is. (search rules, rw c.phase_state.ensures (c.chosen.ensures.so_far given done is)))
