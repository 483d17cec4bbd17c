-- What an inner receiver keeps, and for which octets, given so far, and which blocks, handed over
-- so far, it stands.
use Rattle.std.specs.Prelude.{◌≡◌, ◌⊎◌, ℕ, ◌+◌, ◌<◌, Bool, true, false, List, [], ◌++◌, length, Option, Some, None, if◌then◌else◌}
use Rattle.tm_base.specs.Handed.{Handed}
use Rattle.tm_base.specs.Takers.{HandedOver}
use Rattle.tm_config.specs.Configuration.{Configuration}
use Rattle.tm_config.specs.declared.values.Sought.TheVariants.{Given}
use Rattle.tm_conv.specs.declared.rates.Rate.{Rate}
use Rattle.tm_viterbi.specs.WindowBlock.{WindowBlock}
use Rattle.tm_viterbi.specs.WindowSizes.{stream_bound}
use Rattle.tm_windows.specs.Windows.{AreFirstIn}
use Rattle.tm_inner.specs.Inner.{windows_of, soft_octets}
use Rattle.tm_inner.specs.InnerDecoding.{InnerDecoding, InnerDecoderStandsFor, IsDrained, unread}
use Rattle.tm_inner.specs.Phase.{IsSoFarBy, phase_octets, with_phase}

-- what contracts see of an inner receiver
pub record InnerReceiving : Type 0 where
  pub decoder : InnerDecoding
  -- an earlier call answered Taker, or `finish` was called
  pub has_stopped : Bool

-- a decoder that was given these octets, whose phase and blocks so far were read, the phase first
pub record HasRead (d : InnerDecoding) (given : List ℕ)
    (done : List (Handed WindowBlock)) : Type 0 where
  pub blocks : List WindowBlock
  pub stands : InnerDecoderStandsFor d given blocks
  pub read : d.has_phase ≡ true → d.chosen ≡ None → d.config.phase ≡ Given
  pub after : d.has_phase ≡ false → (blocks ≡ []) ⊎ (d.config.phase ≡ Given)
  pub are : done ≡ with_phase (if d.has_phase then d.chosen else None) blocks

-- the same where all that is due was decoded and read, and the phase is chosen where it is settled
pub record HasHanded (d : InnerDecoding) (given : List ℕ)
    (done : List (Handed WindowBlock)) : Type 0 where
  pub read : HasRead d given done
  pub all : unread d ≡ None
  pub drained : IsDrained d.queue
  pub so_far : IsSoFarBy d.config (phase_octets d.config given) d.chosen

-- the blocks of the first windows of received octets; none where there is no inner code
abbrev pub FirstAt : Option Rate → Configuration → ℕ → List ℕ → List WindowBlock → Type 0
FirstAt None c phase octets blocks = blocks ≡ []
FirstAt (Some rate) c phase octets blocks = AreFirstIn (windows_of c rate)
    (soft_octets c phase octets) blocks

abbrev pub AreInnerFirst : Configuration → ℕ → List ℕ → List WindowBlock → Type 0
AreInnerFirst c = FirstAt c.inner c

-- given the octets, fewer than 2^60 with those before, a value goes on and hands over more
pub record Hands {T I S : Type 0} (took : T → I → T → Type 0)
    (Stands : S → List ℕ → List I → Type 0) (before now : S)
    (taker taker_now : T) (octets : List ℕ) : Type 0 where
  pub more : List I
  pub handed : HandedOver took taker more taker_now
  pub stands : (given : List ℕ) (done : List I) → length given + length octets < stream_bound
      → Stands before given done
      → Stands now (given ++ octets) (done ++ more)
