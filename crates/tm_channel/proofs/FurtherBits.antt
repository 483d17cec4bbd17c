-- The bits of received octets and of the blocks of these, and those that further ones add.
use Rattle.std.proofs.Common.{◌≡◌, ◌-◌, ℕ, Bool, List, ◌++◌, length, drop, sym, ap, ◌∙◌, arith, Option, Some, None}
use Rattle.std.proofs.lemmas.List.{append-nil}
use Rattle.tm_base.specs.Handed.{Handed, items_of}
use Rattle.tm_config.specs.Configuration.{Configuration}
use Rattle.tm_conv.specs.declared.rates.Rate.{Rate}
use Rattle.tm_viterbi.specs.WindowBlock.{WindowBlock}
use Rattle.tm_windows.specs.declared.choosing.Chosen.{Chosen}
use Rattle.tm_inner.specs.Inner.{BlocksAt, plain_bits, plain_count, bits_at}
use Rattle.tm_inner.specs.Phase.{with_phase}
use Rattle.tm_inner.proofs.DueBits.{drop-split}
use Rattle.tm_inner.proofs.PlainBits.{length-plain, plain-append}
use Rattle.tm_inner.proofs.PhasePieces.{items_of-with_phase}
use Rattle.tm_channel.proofs.ReceivedPieces.{all_bits, all_bits-append}
use Rattle.tm_channel.proofs.PhasedItems.{prefix-nil}

-- those that come of further octets: what the blocks keep that come with them, or with no inner code
-- all after those that are still to be skipped
abbrev pub bits_found : Configuration → Option Rate → ℕ → List WindowBlock → List ℕ → List Bool
bits_found c None skip more octets = drop skip (plain_bits c octets)
bits_found c (Some rate) skip more octets = all_bits more

pub further-at : (rate : Option Rate) (c : Configuration) (given octets : List ℕ) (blocks more : List WindowBlock)
    (skip : ℕ) → skip ≡ c.skip - plain_count c (length given)
    → bits_at rate c (given ++ octets) (blocks ++ more)
    ≡ bits_at rate c given blocks ++ bits_found c rate skip more octets
further-at None c given octets blocks more skip is =
    let left : c.skip - length (plain_bits c given) ≡ skip = omega (arith, is, length-plain c given) in
    ap (drop c.skip) (plain-append c given octets) ∙ drop-split c.skip (plain_bits c given) (plain_bits c octets)
    ∙ ap (λ n. drop c.skip (plain_bits c given) ++ drop n (plain_bits c octets)) left
further-at (Some rate) c given octets blocks more skip is = all_bits-append blocks more

-- the last blocks
pub last-at : (rate : Option Rate) (c : Configuration) (phase : ℕ) (given : List ℕ) (blocks last : List WindowBlock)
    (left : ℕ) → BlocksAt rate c phase given (blocks ++ last) left
    → bits_at rate c given (blocks ++ last) ≡ bits_at rate c given blocks ++ all_bits last
last-at None c phase given blocks last left are =
    let none = prefix-nil blocks last are.0 in
    sym (append-nil (drop c.skip (plain_bits c given))) ∙ ap
    (λ (l : List WindowBlock). drop c.skip (plain_bits c given) ++ all_bits l) (sym none.1)
last-at (Some rate) c phase given blocks last left are = all_bits-append blocks last

-- the blocks of what was handed over
pub phased-items : {I : Type 0} (chosen : Option Chosen) (items : List I) (handed : List (Handed I))
    → handed ≡ with_phase chosen items → items_of handed ≡ items
phased-items chosen items handed are = ap items_of are ∙ items_of-with_phase chosen items
