use Rattle.std.proofs.Common.{arith}
use Rattle.tm_rs_code.proofs.Numbers.{AreElements-numbers}
use Rattle.tm_rs.proofs.Remainders.{fixed_none_erased}
use Rattle.tm_rs.proofs.erased_word.decode_erased.Goals as goal

pub returns-then-count_erased-e-clause-nearest : goal.returns-then-count_erased-e-clause-nearest
returns-then-count_erased-e-clause-nearest g c =
    fixed_none_erased c.args.params.now.e c.args.repair c.args.erased.now c.args.word.now c.remainder.new.left
    (omega (arith, c.count_erased.ensures, c.e-e.ensures.value, c.if-count_erased-e.true)) c.remainder.ensures.values
    (c.is_zero.ensures.0 c.if-is_zero.true)
    (AreElements-numbers c.args.word.now c.see_range.ensures)
