-- What is handed over for received octets: the symbol phase, where it is to be found, and then
-- blocks.
use Rattle.std.specs.Prelude.{◌≡◌, ◌⊎◌, ℕ, ◌+◌, ◌<◌, ◌≤◌, List, ◌++◌, length, None, true, false}
use Rattle.tm_base.specs.Handed.{Handed, Phase, items_of}
use Rattle.tm_base.specs.Takers.{HandedOver}
use Rattle.tm_config.specs.Configuration.{Configuration}
use Rattle.tm_viterbi.specs.WindowBlock.{WindowBlock}
use Rattle.tm_viterbi.specs.WindowSizes.{stream_bound}
use Rattle.tm_inner.specs.declared.decoder.InnerEnd.{InnerEnd}
use Rattle.tm_inner.specs.Inner.{AreInnerBlocks, AreInnerDue, inner_bits, reported_slips}
use Rattle.tm_inner.specs.InnerDecoding.{InnerDecoding, IsDrained, IsSettledQueue, unread}
use Rattle.tm_inner.specs.Phase.{IsChosen, IsChosenSoFar, WithPhase, WithPhaseSettled, WithPhaseSoFar}
use Rattle.tm_inner.specs.Receiving.{AreInnerFirst, HasHanded, HasRead, Hands}

-- all that is handed over, and how many octets are left over
abbrev pub AreHanded : Configuration → List ℕ → List (Handed WindowBlock) → ℕ → Type 0
AreHanded c octets handed left =
    WithPhase (λ phase blocks. AreInnerBlocks c phase octets blocks left) c octets handed

-- what is due, whatever octets come: the phase, once it is settled, and all blocks but the last
abbrev pub AreHandedDue : Configuration → List ℕ → List (Handed WindowBlock) → Type 0
AreHandedDue c octets = WithPhaseSoFar (λ phase. AreInnerDue c phase octets) c octets

-- the first of what is due
abbrev pub AreHandedFirst : Configuration → List ℕ → List (Handed WindowBlock) → Type 0
AreHandedFirst c octets = WithPhaseSettled (λ phase. AreInnerFirst c phase octets) c octets

-- the first of all, or all
abbrev pub AreHandedPrefix : Configuration → List ℕ → List (Handed WindowBlock) → Type 0
AreHandedPrefix c octets = WithPhase (λ phase blocks. AreInnerFirst c phase octets blocks ⊎
    ((left : ℕ) × AreInnerBlocks c phase octets blocks left)) c octets

-- the phase that a decoder keeps is the one chosen of these octets, once it is settled, or at the end
pub record IsKept (d : InnerDecoding) (octets : List ℕ) : Type 0 where
  pub so_far : d.has_ended ≡ false → IsChosenSoFar d.config octets d.chosen
  pub at_end : d.has_ended ≡ true → IsChosen d.config octets d.chosen

-- the phase that is kept now is that of the octets before and of these, which were put in since
abbrev pub Keeps : InnerDecoding → InnerDecoding → List ℕ → Type 0
Keeps before now octets = (given : List ℕ) (done : List (Handed WindowBlock))
    → length given + length octets < stream_bound → HasRead before given done
    → IsKept now (given ++ octets)

-- octets were put in, and all that is due of them, fewer than 2^60 with those before, was decoded
-- and read; the phase that is kept is theirs
pub record ReadsDue {T : Type 0} (took : T → Handed WindowBlock → T → Type 0)
    (before now : InnerDecoding) (taker taker_now : T) (octets : List ℕ) : Type 0 where
  pub config : now.config ≡ before.config
  pub ended : now.has_ended ≡ before.has_ended
  pub still : length octets ≡ 0 → IsSettledQueue before.queue → IsSettledQueue now.queue
  pub drained : IsDrained now.queue
  pub all : unread now ≡ None
  pub read : Hands took HasRead before now taker taker_now octets
  pub kept : Keeps before now octets

-- the symbol phase does nothing to a taker
abbrev pub LeavesPhase : {T : Type 0} → (T → Handed WindowBlock → T → Type 0) → Type 0
LeavesPhase {T} took = (before now : T) (skip cost : ℕ) → took before (Phase skip cost) now → now ≡ before

-- no octets come any more, and all that is left was decoded and read, with this end
pub record ReadsLast {T : Type 0} (took : T → Handed WindowBlock → T → Type 0)
    (before now : InnerDecoding) (taker taker_now : T) (end : InnerEnd) : Type 0 where
  pub config : now.config ≡ before.config
  pub ended : now.has_ended ≡ true
  pub last : List (Handed WindowBlock)
  pub handed : HandedOver took taker last taker_now
  pub all : (given : List ℕ) (done : List (Handed WindowBlock)) → HasHanded before given done
      → AreHanded before.config given (done ++ last) end.leftover
      × (end.bits ≡ length (inner_bits before.config given (items_of (done ++ last))))
      × (end.slips ≡ reported_slips before.config (items_of (done ++ last)))
  pub chosen : (given : List ℕ) (done : List (Handed WindowBlock)) → HasHanded before given done
      → IsChosen before.config given now.chosen
  pub left : end.leftover ≤ 1
