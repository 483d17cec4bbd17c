use Rattle.std.proofs.Common.{zero, suc, arith}
use Rattle.tm_viterbi.proofs.step_pairs.step_pairs.Goals as goal

pub returns : goal.returns
returns c zero d lt = c.step_pair.ensures
returns c (suc zero) d lt = c.step_pair-2.ensures
returns c (suc (suc zero)) d lt = c.step_pair-3.ensures
returns c (suc (suc (suc zero))) d lt = c.step_pair-4.ensures
returns c (suc (suc (suc (suc zero)))) d lt = c.step_pair-5.ensures
returns c (suc (suc (suc (suc (suc zero))))) d lt = c.step_pair-6.ensures
returns c (suc (suc (suc (suc (suc (suc zero)))))) d lt = c.step_pair-7.ensures
returns c (suc (suc (suc (suc (suc (suc (suc zero))))))) d lt = c.step_pair-8.ensures
returns c (suc (suc (suc (suc (suc (suc (suc (suc zero)))))))) d lt = c.step_pair-9.ensures
returns c (suc (suc (suc (suc (suc (suc (suc (suc (suc k))))))))) d lt = absurd (omega arith)
