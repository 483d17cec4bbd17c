use Rattle.std.proofs.Common.{◌≡◌, drop}
use Rattle.tmchan_c.specs.Options.{are_zero}
use Rattle.tmchan_c.proofs.config.are_zero.Given as goal

abbrev pub invariant-loop-number : goal.invariant-loop-number
invariant-loop-number l = are_zero l.numbers ≡ are_zero (drop l.number-index l.numbers)
