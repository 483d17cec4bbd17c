use Rattle.std.proofs.Common.{sym, ◌∙◌, ◌-◌, arith}
use Rattle.tm_sync.proofs.Matches.{wrong-inverted, match-upright, match-given, match-inverted, match-none}
use Rattle.tm_sync.proofs.search.polarity_of.Goals as goal

pub returns-then-wrong-tolerance : goal.returns-then-wrong-tolerance
returns-then-wrong-tolerance c =
    λ rules bits tolerance either long is. sym (match-upright rules bits c.args.wrong is (omega arith))

pub returns-then-not-either : goal.returns-then-not-either
returns-then-not-either c =
    λ rules bits tolerance either long is. sym
    (match-given rules bits c.args.wrong is (omega arith) (either ∙ c.if-not-either.true))

pub returns-then-wrong-tolerance-2 : goal.returns-then-wrong-tolerance-2
returns-then-wrong-tolerance-2 c = λ rules bits tolerance either long is.
    sym (match-inverted rules bits c.args.wrong (32 - c.args.wrong) is (omega arith) (either ∙ c.if-not-either.false)
    (wrong-inverted c.args.wrong bits long is) (omega arith))

pub returns : goal.returns
returns c = λ rules bits tolerance either long is.
    sym (match-none rules bits c.args.wrong (32 - c.args.wrong) is (omega arith)
    (wrong-inverted c.args.wrong bits long is) (omega arith))
