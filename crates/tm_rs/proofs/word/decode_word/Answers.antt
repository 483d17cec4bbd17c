use Rattle.tm_rs_code.proofs.Numbers.{AreElements-numbers}
use Rattle.tm_rs.proofs.Remainders.{fixed_none}
use Rattle.tm_rs.proofs.word.decode_word.Goals as goal

pub returns-then-is_zero-clause-nearest : goal.returns-then-is_zero-clause-nearest
returns-then-is_zero-clause-nearest g c =
    fixed_none c.args.params.now.e c.args.repair c.args.word.now c.remainder.new.left c.remainder.ensures.values
    (c.is_zero.ensures.0 c.if-is_zero.true)
    (AreElements-numbers c.args.word.now c.see_range.ensures)
