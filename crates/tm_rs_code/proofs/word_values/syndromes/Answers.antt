use Rattle.std.proofs.Common.{arith, refl}
use Rattle.tm_rs_code.proofs.Numbers.{entry-zeros}
use Rattle.tm_rs_code.proofs.word_values.syndromes.Goals as goal

pub loop-k-init : goal.loop-k-init
loop-k-init c = record { size = refl; values = λ j lt. absurd (omega arith); rest = λ j le. entry-zeros 32 j }
