use Rattle.std.proofs.Common.{◌-◌, length, arith}
use Rattle.tm_rs_code.specs.Code.{root}
use Rattle.tm_rs.proofs.Remainders.{remainder_values}
use Rattle.tm_rs.proofs.division.remainder.Goals as goal

pub returns-clause-values : goal.returns-clause-values
returns-clause-values c k lt =
    remainder_values (root c.args.params.now.e k) (length c.args.word.now - length c.args.left.now) c.args.word.now
    c.checks.new.out c.loop-i.left
    (omega (arith, c.n-n.ensures.range, c.requires.size, c.requires.room, c.checks.auto.out)) c.loop-i.invariant.size
    (λ j below. c.loop-i.invariant.done j (omega (arith, c.loop-i.invariant.size)))
    (c.checks.ensures.systematic.codeword k lt)
