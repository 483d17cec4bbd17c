-- A last window alone.
use Rattle.std.proofs.Common.{ℕ, ◌+◌, ◌<◌, ◌≤◌, arith, List, [], ◌∷◌, Bool, Option}
use Rattle.tm_conv.specs.declared.rates.Rate.{Rate}
use Rattle.tm_viterbi.specs.WindowBlock.{WindowBlock}
use Rattle.tm_viterbi.specs.Blocks.{IsBlock, AreBlocks}
use Rattle.tm_viterbi.proofs.WholeBlocks.{last_kept}

-- all its steps are kept
pub one_block : (rate : Rate) (invert : Bool) (keep ahead : ℕ) (starts : Option ℕ) (t n : ℕ) (octets : List ℕ)
    (last : WindowBlock) → 0 < n → n ≤ keep + ahead
    → IsBlock rate invert keep ahead starts t n octets last
    → AreBlocks rate invert keep ahead starts t n octets (last ∷ [])
one_block rate invert keep ahead starts t n octets last some few is =
    (some, is, omega (arith, is.kept, last_kept keep ahead n few))
