-- What contracts see of the decoder of a configuration's inner code, and for which octets, put in so
-- far, and which blocks, decoded so far, it stands.
use Rattle.std.specs.Prelude.{◌≡◌, ◌⊎◌, ℕ, ◌*◌, ◌<◌, ◌≤◌, Bool, true, false, List, [], length, Option, Some, None, nat_lt, if◌then◌else◌, ◌||◌}
use Rattle.std.specs.Option.{is_some}
use Rattle.tm_config.specs.Configuration.{Configuration}
use Rattle.tm_config.specs.declared.values.Sought.{Sought}
use Rattle.tm_config.specs.declared.values.Sought.TheVariants.{Given, Find}
use Rattle.tm_conv.specs.declared.rates.Rate.{Rate}
use Rattle.tm_viterbi.specs.WindowBlock.{WindowBlock}
use Rattle.tm_viterbi.specs.WindowSizes.{stream_bound}
use Rattle.tm_windows.specs.Queue.{Queueing, AwaitsPhase, QueueStandsFor, HoldsRun, IsOpen, SharesAmong, fill_room, reached}
use Rattle.tm_windows.specs.Windows.{dropped_of}
use Rattle.tm_windows.specs.declared.choosing.Chosen.{Chosen}
use Rattle.tm_inner.specs.Inner.{windows_of}
use Rattle.tm_inner.specs.Phase.{IsChosenBy, phase_octets, skip_of}
use Rattle.tm_inner.specs.SymbolPlaces.{origin_by}

-- what contracts see of it
pub record InnerDecoding : Type 0 where
  pub config : Configuration
  -- that of the inner code; None where there is no inner code
  pub queue : Option Queueing
  -- how many octets were given, up to the greatest value that is counted
  pub count : ℕ
  -- None before the choice of the phase, and where it is given
  pub chosen : Option Chosen
  -- the phase was read, or is given
  pub has_phase : Bool
  -- no octets come any more
  pub has_ended : Bool

-- the queue is that of the configuration's inner code, and there is none where it has no inner code
abbrev pub IsQueueOf : Configuration → Option Queueing → Type 0
IsQueueOf c None = c.inner ≡ None
IsQueueOf c (Some queue) = (rate : Rate) × (c.inner ≡ Some rate) × (queue.windows ≡ windows_of c rate)
    × ((c.phase ≡ Given × (queue.find ≡ false)) ⊎ (c.phase ≡ Find × (queue.find ≡ true)))

-- the queue ends with it, and was given no more octets than it was, fewer than 2^60
abbrev pub GoesWith : Option Queueing → (count : ℕ) → (has_ended : Bool) → Type 0
GoesWith None count has_ended = Unit {0}
GoesWith (Some queue) count has_ended = (queue.has_ended ≡ has_ended) × (reached queue ≤ count)
    × (reached queue < stream_bound)

-- it has as many workers as it was opened for, and windows at a time for these and for the bits that
-- may be buffered
abbrev pub HasWorkers : (workers waiting : ℕ) → Option Queueing → Type 0
HasWorkers workers waiting None = Unit {0}
HasWorkers workers waiting (Some queue) = SharesAmong workers waiting queue

-- how many workers a queue has, and how many of them decoded its windows last, at most
pub record Sharing : Type 0 where
  pub workers : ℕ
  pub by : ℕ

abbrev pub sharing_in : Option Queueing → Option Sharing
sharing_in None = None
sharing_in (Some queue) = Some record { workers = queue.workers; by = queue.by }

-- after windows were decoded by a crew that has this share of the workers at work
abbrev pub shared_by : (share : ℕ → ℕ) → Option Sharing → Option Sharing
shared_by share None = None
shared_by share (Some sharing) = Some record sharing { by = share sharing.workers }

-- what was decoded in a call, if anything was, was decoded so
abbrev pub Shares : (share : ℕ → ℕ) → (before now : Option Queueing) → Type 0
Shares share before now = (sharing_in now ≡ sharing_in before)
    ⊎ (sharing_in now ≡ shared_by share (sharing_in before))

-- these soft octets were put in, and these blocks were decoded; with no inner code there are none
abbrev pub DecodesFor : Option Queueing → List ℕ → List WindowBlock → Type 0
DecodesFor None soft blocks = blocks ≡ []
DecodesFor (Some queue) soft blocks = QueueStandsFor queue soft blocks

-- nothing is left to decode
abbrev pub IsDrained : Option Queueing → Type 0
IsDrained None = Unit {0}
IsDrained (Some queue) = IsOpen queue

-- how many soft octets are held
abbrev pub held_in : Option Queueing → List ℕ
held_in None = []
held_in (Some queue) = queue.held

-- how many octets were dropped before the windows that were decoded
abbrev pub lost_in : Option Queueing → ℕ
lost_in None = 0
lost_in (Some queue) = queue.lost

-- the phase is the one that its queue has chosen
abbrev pub HasChosen : Option Queueing → Option Chosen → Type 0
HasChosen None chosen = Unit {0}
HasChosen (Some queue) chosen = queue.chosen ≡ chosen

-- These octets and no others were put in, fewer than 2^60, and these blocks were decoded, the ready
-- ones last. The phase is that of the octets, or it is still to be chosen, and there are no blocks.
pub record InnerDecoderStandsFor (d : InnerDecoding) (given : List ℕ)
    (blocks : List WindowBlock) : Type 0 where
  pub of : IsQueueOf d.config d.queue
  pub same : HasChosen d.queue d.chosen
  pub count : length given ≡ d.count
  pub few : length given < stream_bound
  pub decodes : DecodesFor d.queue (phase_octets d.config given) blocks
  pub lost : lost_in d.queue ≡ dropped_of blocks
  pub choice : ((d.chosen ≡ None) × (blocks ≡ []) × (d.has_ended ≡ false)) ⊎
      IsChosenBy d.config (phase_octets d.config given) d.chosen

-- the blocks that are ready
abbrev pub ready_in : Option Queueing → List WindowBlock
ready_in None = []
ready_in (Some queue) = queue.ready

-- `left` octets are left of those that were to be put in: none, or there is no room for one more
abbrev pub HasFilled : Option Queueing → ℕ → Type 0
HasFilled None left = left ≡ 0
HasFilled (Some queue) left = (left ≡ 0) ⊎ (fill_room queue ≤ length queue.held)

-- the queue, where there is one, awaits its phase, or what it holds closes windows that keep more
-- than `bits` bits
abbrev pub HoldsMore : Option Queueing → ℕ → Type 0
HoldsMore None bits = Unit {0}
HoldsMore (Some queue) bits = AwaitsPhase queue ⊎ ((count : ℕ) × HoldsRun queue count
    × (bits < count * queue.windows.settings.keep))

-- the phase is chosen, or given
abbrev pub IsSettledQueue : Option Queueing → Type 0
IsSettledQueue None = Unit {0}
IsSettledQueue (Some queue) = AwaitsPhase queue → ⊥

-- it is for the same octets, ended or not, and a phase that is settled stays so
pub record IsSameDecoder (before now : InnerDecoding) : Type 0 where
  pub config : now.config ≡ before.config
  pub ended : now.has_ended ≡ before.has_ended
  pub settled : IsSettledQueue before.queue → IsSettledQueue now.queue

-- with no inner code phase 0 at no cost is chosen by the first octet, or at the end
abbrev pub plain_phase_by : Sought → Bool → Option Chosen
plain_phase_by Find true = Some (record { skip = 0; cost = 0 })
plain_phase_by phase settled = None

abbrev pub plain_phase : Configuration → (count : ℕ) → (has_ended : Bool) → Option Chosen
plain_phase c count has_ended = plain_phase_by c.phase (nat_lt 0 count || has_ended)

abbrev pub chosen_in : Configuration → Option Queueing → ℕ → Bool → Option Chosen
chosen_in c None count has_ended = plain_phase c count has_ended
chosen_in c (Some queue) count has_ended = queue.chosen

-- the phase, where it was chosen and not read yet; and whether it was read after that
abbrev pub unread : InnerDecoding → Option Chosen
unread d = if d.has_phase then None else d.chosen

abbrev pub has_phase_now : InnerDecoding → Bool
has_phase_now d = d.has_phase || is_some d.chosen

-- how many of the symbols that were given stand before the steps of the ready blocks, and are of no
-- step
abbrev pub origin_in : InnerDecoding → ℕ
origin_in d = origin_by d.config.inner d.config (skip_of d.chosen) (lost_in d.queue)
