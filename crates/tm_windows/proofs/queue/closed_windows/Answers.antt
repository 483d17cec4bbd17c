use Rattle.std.proofs.Common.{◌+◌, ◌*◌, ◌/◌, arith}
use Rattle.tm_conv.proofs.Sizes.{steps_size-le}
use Rattle.tm_windows.proofs.HeldOctets.{are_closed, no_more, some_closed}
use Rattle.tm_windows.proofs.queue.closed_windows.Goals as goal

pub returns-clause-room : goal.returns-clause-room
returns-clause-room c = λ some.
    let s = c.args.shape in
    let steps = c.whole_steps-steps.result in
    let n = c.saturating_sub.result in
    let are = are_closed s.keep s.ahead steps n (omega (arith, c.requires.sizes)) c.saturating_sub.ensures in
    omega (
      arith,
      c.whole_steps-steps.ensures.whole,
      steps_size-le s.rate c.args.t
          (n / s.keep * s.keep + s.ahead + 1) steps (are.room some),
    )

pub returns-clause-all : goal.returns-clause-all
returns-clause-all c = λ few.
    let s = c.args.shape in
    let steps = c.whole_steps-steps.result in
    let n = c.saturating_sub.result in
    let are = are_closed s.keep s.ahead steps n (omega (arith, c.requires.sizes)) c.saturating_sub.ensures in
    no_more s c.args.t c.args.len c.args.most steps (n / s.keep) are c.whole_steps-steps.ensures.all few

pub returns-clause-some : goal.returns-clause-some
returns-clause-some c = λ some room.
    let s = c.args.shape in
    let steps = c.whole_steps-steps.result in
    let n = c.saturating_sub.result in
    let are = are_closed s.keep s.ahead steps n (omega (arith, c.requires.sizes)) c.saturating_sub.ensures in
    some_closed s c.args.t c.args.len c.args.most steps (n / s.keep) are c.whole_steps-steps.ensures.all some room
