use Rattle.std.proofs.Common.{◌+◌, ◌-◌, ◌/◌, ◌≤◌, ℕ, arith}
use Rattle.std.proofs.Math.Nat.{div-le_self}
use Rattle.tm_windows.proofs.FirstDrops.{fewer_looks, fewer_steps}
use Rattle.tm_windows.proofs.looks.+looks.Goals as goal

pub look_evenly-look_both-requires-clause-first_part : goal.look_evenly-look_both-requires-clause-first_part
look_evenly-look_both-requires-clause-first_part g t c κs within =
    let a = c.args in
    let many : ℕ = a.last - a.first in
    let middle : ℕ = a.first + many / c.min-parts.result in
    let part : many / c.min-parts.result ≤ many = div-le_self many c.min-parts.result in
    let le : middle ≤ a.last = omega (arith, part, c.requires.within) in (
      fewer_looks a.looks.now middle a.last le c.requires.room,
      fewer_steps a.looks.now.t a.looks.now.shape.keep middle a.last _ le c.requires.few,
    )
