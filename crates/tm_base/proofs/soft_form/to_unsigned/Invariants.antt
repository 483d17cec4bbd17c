use Rattle.std.proofs.Common.{◌≡◌, ◌++◌, true, take, drop}
use Rattle.tm_base.specs.SoftForm.{from_form}
use Rattle.tm_base.proofs.soft_form.to_unsigned.Given as goal

abbrev pub invariant-loop-k : goal.invariant-loop-k
invariant-loop-k l = l.octets ≡ from_form true (take l.k l.fn.octets) ++ drop l.k l.fn.octets
