-- What a receiver keeps, and for which octets, given so far, and which items, handed over so far,
-- it stands.
use Rattle.std.specs.Prelude.{◌≡◌, true, false, ◌==◌, ◌+◌, ◌-◌, ◌^◌, ◌<◌, ◌≤◌, ◌⊎◌, ℕ, Bool, if◌then◌else◌, List, [], ◌++◌, length, take, map, Option, Some, None}
use Rattle.std.specs.Option.{is_some}
use Rattle.tm_base.specs.Handed.{Handed, Item, items_of}
use Rattle.tm_base.specs.Takers.{HandedOver, HandedPart}
use Rattle.tm_config.specs.Configuration.{Configuration}
use Rattle.tm_config.specs.declared.values.Sought.TheVariants.{Given}
use Rattle.tm_conv.specs.Path.{farthest_step}
use Rattle.tm_conv.specs.declared.rates.Rate.{Rate}
use Rattle.tm_sync.specs.declared.found.Found.{Found}
use Rattle.tm_sync.specs.Bits.{bits_bound}
use Rattle.tm_viterbi.specs.WindowBlock.{WindowBlock}
use Rattle.tm_viterbi.specs.Clean.{kept_bits}
use Rattle.tm_viterbi.specs.WindowSizes.{stream_bound}
use Rattle.tm_windows.specs.Windows.{slips_of}
use Rattle.tm_windows.specs.declared.choosing.Chosen.{Chosen}
use Rattle.tm_inner.specs.Inner.{inner_bits}
use Rattle.tm_inner.specs.Phase.{IsChosen, IsChosenSoFar, skip_of, with_phase}
use Rattle.tm_inner.specs.SymbolPlaces.{symbol_at}
use Rattle.tm_inner.specs.Handing.{AreHandedDue}
use Rattle.tm_inner.specs.InnerDecoding.{HasFilled, HoldsMore as ClosesMore, InnerDecoderStandsFor, InnerDecoding, unread}
use Rattle.tm_channel.specs.Items.{ItemValue, AreItems, AreItemsOf}
use Rattle.tm_channel.specs.Due.{due, due_count}
use Rattle.tm_channel.specs.declared.bit_receiver.BitReceiver.{BitReceiver}
use Rattle.tm_channel.specs.declared.totals.Totals.{Totals}
use Rattle.tm_channel.specs.Handing.{AreReceived, AreReceivedDue, AreReceivedFirst, AreReceivedPrefix}
use Rattle.tm_channel.specs.Most.{AreFew}
use Rattle.tm_channel.specs.Origins.{AreAt, AreSpaced, ReachesBack, origin_at, place_symbol, symbol_by}
use Rattle.tm_channel.specs.Receiving.{Fills, Holds, HoldsFound, HoldsMore, IsShort, Stands, waiting_bits}

-- it was given these bits
abbrev pub BitReceiverStandsFor : BitReceiver → List Bool → Type 0
BitReceiverStandsFor r = Stands r.finder r.recent r.batch

-- It may be given bits: its parts agree, there is room, and the batch is not full. With an inner
-- code no bits wait, since the origins reach back no farther than a search keeps bits.
pub record AwaitsBits (r : BitReceiver) : Type 0 where
  pub fills : Fills r.finder r.recent r.batch
  pub reaches : ReachesBack r.batch.config r.origins.size
  pub short : is_some r.batch.config.inner ≡ true → IsShort r.finder r.recent

-- Of a receiver of fewer than so many bits, these are the symbols of the codeblocks that are stored,
-- and of all bits that are not passed.
pub record HasSymbols (r : BitReceiver) (count : ℕ) (at : ℕ → ℕ) : Type 0 where
  pub stored : AreAt at count r.batch.symbols
  pub left : (n : ℕ) → r.finder.passed ≤ n → symbol_by r.batch.config.inner r.batch.config
      (origin_at r.origins.origins n) n ≡ at n
  pub fit : (n : ℕ) → n < count → at n < 2 ^ 64
  pub few : is_some r.batch.config.inner ≡ true → count ≤ farthest_step

-- Of these bits, not passed yet, which were received with the inner code: each origin stands as far
-- from the next as a window keeps bits.
abbrev pub AreKnown : Option Rate → Configuration → (at : ℕ → ℕ) → (count : ℕ) → BitReceiver
    → Type 0
AreKnown None c at count r = Unit {0}
AreKnown (Some rate) c at count r = AreSpaced c.keep count r.origins.origins
    × ((n : ℕ) → r.finder.passed ≤ n → n < count
    → symbol_by (Some rate) c (origin_at r.origins.origins n) n ≡ at n)

-- A search was given these bits, among the first ones, so many, whose symbols are these: the items
-- that are due of them, and the codeblocks that are stored, say theirs.
pub record Searched (c : Configuration) (at : ℕ → ℕ) (count : ℕ) (bits : List Bool)
    (r : BitReceiver) (items : List ItemValue) : Type 0 where
  pub stands : BitReceiverStandsFor r bits
  pub are_items : AreItemsOf c bits (due c bits) items
  pub stored : AreAt at count r.batch.symbols
  pub said : AreAt at count (map place_symbol items)

-- what contracts see of both stages of a receiver: the inner code, and the search for codeblocks in
-- its bits
pub record Stages : Type 0 where
  pub inner : InnerDecoding
  pub bits : BitReceiver

-- Stages of a configuration that were given these octets and no others, fewer than 2^60, and have
-- handed over this: the first stage has decoded these blocks, and then the ready ones. The bits of
-- the blocks before those, or with no inner code of the octets that were taken, were given to the
-- search, and the items that are due of them handed over, after the phase, once it was read.
pub record Progress (c : Configuration) (s : Stages) (given taken : List ℕ)
    (blocks ready : List WindowBlock) (done : List (Handed ItemValue)) : Type 0 where
  pub of : (s.inner.config ≡ c) × (s.bits.batch.config ≡ c)
  pub inner : InnerDecoderStandsFor s.inner given (blocks ++ ready)
  pub items : List ItemValue
  pub searched : Searched c (symbol_at c (skip_of s.inner.chosen) blocks)
      (length (inner_bits c taken blocks)) (inner_bits c taken blocks) s.bits items
  pub known : AreKnown c.inner c (symbol_at c (skip_of s.inner.chosen) blocks)
      (length (inner_bits c taken blocks)) s.bits
  pub read : s.inner.has_phase ≡ true → s.inner.chosen ≡ None → c.phase ≡ Given
  pub first : s.inner.has_phase ≡ false → (c.phase ≡ Given) ⊎ (items ≡ [])
  pub are : done ≡ with_phase (if s.inner.has_phase then s.inner.chosen else None) items

-- Stages that were given these octets and no others, fewer than 2^60, before the end of the octets,
-- and have handed over this: of the blocks that are due some may wait in the first stage, whose
-- bits make no item due; the bits of the others were given to the search, and the phase, where it is
-- chosen, and the items that are due went to the taker.
pub record StagesFor (s : Stages) (given : List ℕ) (done : List (Handed ItemValue)) : Type 0 where
  pub going : s.inner.has_ended ≡ false
  pub all : unread s.inner ≡ None
  pub so_far : IsChosenSoFar s.inner.config given s.inner.chosen
  pub blocks : List WindowBlock
  pub progress : Progress s.inner.config s given given blocks [] done
  pub waiting : List WindowBlock
  pub are_due : AreHandedDue s.inner.config given
      (with_phase s.inner.chosen blocks ++ map Item waiting)
  pub few : length (kept_bits waiting) ≤ waiting_bits s.inner.config s.inner.config.batch
  pub none_due : due s.inner.config (inner_bits s.inner.config given (blocks ++ waiting))
      ≡ due s.inner.config (inner_bits s.inner.config given blocks)

-- stages that were given these octets and have handed over this, whose first stage has handed over
-- more after the phase and blocks of before
abbrev pub StagesOn : Stages → List ℕ → List (Handed ItemValue) → List (Handed WindowBlock)
    → Type 0
StagesOn s given done before = (stands : StagesFor s given done)
    × (more : List (Handed WindowBlock))
    × (with_phase s.inner.chosen stands.blocks ≡ before ++ more)

-- given the octets, fewer than 2^60 with those before, both stages go on and hand over more
pub record StagesHand {T : Type 0} (took : T → Handed ItemValue → T → Type 0) (before now : Stages)
    (taker taker_now : T) (octets : List ℕ) : Type 0 where
  pub more : List (Handed ItemValue)
  pub handed : HandedOver took taker more taker_now
  pub stands : (given : List ℕ) (done : List (Handed ItemValue))
      → length given + length octets < stream_bound
      → (stood : StagesFor before given done)
      → StagesOn now (given ++ octets) (done ++ more)
      (with_phase before.inner.chosen stood.blocks)

-- what contracts see of a receiver
pub record OctetReceiving : Type 0 where
  pub config : Configuration
  -- an earlier call answered Taker, or the receiver was finished
  pub has_stopped : Bool
  pub stages : Stages
  -- for how many workers it was opened, and then by how many the last call decoded at most
  pub by : ℕ

-- a receiver that was given these octets and no others, fewer than 2^60, and has handed over this
abbrev pub ReceiverStandsFor : OctetReceiving → List ℕ → List (Handed ItemValue) → Type 0
ReceiverStandsFor r = StagesFor r.stages

-- Stages that were given these octets have handed over this, and octets were dropped before `slips`
-- of the windows whose bits were searched. So these windows are all that are due but for the
-- buffered ones, none with one worker, and the items of just their bits were handed over.
abbrev pub AreSlipsSoFar : Configuration → (given : List ℕ) → (done : List (Handed ItemValue)) → ℕ
    → Type 0
AreSlipsSoFar c given done slips = (s : Stages) × (s.inner.config ≡ c)
    × (stands : StagesFor s given done) × (slips ≡ slips_of stands.blocks)

-- ---- what a call of a receiver hands over

-- with these octets what is due was handed over, and the receiver stands for them too; whatever it
-- was given before, these are few items
abbrev pub FeedHands : {T : Type 0} → (T → Handed ItemValue → T → Type 0) → OctetReceiving
    → OctetReceiving → T → T → List ℕ → Type 0
FeedHands took before now taker taker_now octets = (more : List (Handed ItemValue))
    × HandedOver took taker more taker_now
    × ((given : List ℕ) (done : List (Handed ItemValue))
    → length given + length octets < stream_bound
    → ReceiverStandsFor before given done
    → ReceiverStandsFor now (given ++ octets) (done ++ more)
    × AreReceivedDue before.config (given ++ octets) (done ++ more))
    × ((given : List ℕ) (done : List (Handed ItemValue))
    → length given + length octets < stream_bound
    → ReceiverStandsFor before given done → AreFew before.config (length octets) (items_of more))

-- the taker failed at something of what is due with these octets
abbrev pub FeedBreaks : {T : Type 0} → (T → Handed ItemValue → T → Type 0)
    → (T → Handed ItemValue → T → Type 0) → OctetReceiving → T → T → List ℕ → Type 0
FeedBreaks took broke before taker taker_now octets = (tried : List (Handed ItemValue))
    × HandedPart took broke taker tried taker_now
    × ((given : List ℕ) (done : List (Handed ItemValue))
    → length given + length octets < stream_bound
    → ReceiverStandsFor before given done
    → AreReceivedFirst before.config (given ++ octets) (done ++ tried))

-- the phase that is kept now is the one that is chosen of these octets, if one is
abbrev pub FeedChooses : OctetReceiving → OctetReceiving → List ℕ → Type 0
FeedChooses before now octets = (given : List ℕ) (done : List (Handed ItemValue))
    → length given + length octets < stream_bound
    → ReceiverStandsFor before given done → before.has_stopped ≡ false
    → IsChosenSoFar before.config (given ++ octets) now.stages.inner.chosen

-- at the end what is left was handed over, and the octets come to this; these are few items too
abbrev pub FinishHands : {T : Type 0} → (T → Handed ItemValue → T → Type 0) → OctetReceiving → T → T
    → Totals → Type 0
FinishHands took before taker taker_now totals = (last : List (Handed ItemValue))
    × HandedOver took taker last taker_now
    × ((given : List ℕ) (done : List (Handed ItemValue)) → ReceiverStandsFor before given done
    → AreReceived before.config given (done ++ last) totals)
    × ((given : List ℕ) (done : List (Handed ItemValue)) → ReceiverStandsFor before given done
    → AreFew before.config 0 (items_of last))

-- the taker failed at something of what is left
abbrev pub FinishBreaks : {T : Type 0} → (T → Handed ItemValue → T → Type 0)
    → (T → Handed ItemValue → T → Type 0) → OctetReceiving → T → T → Type 0
FinishBreaks took broke before taker taker_now = (tried : List (Handed ItemValue))
    × HandedPart took broke taker tried taker_now
    × ((given : List ℕ) (done : List (Handed ItemValue)) → ReceiverStandsFor before given done
    → AreReceivedPrefix before.config given (done ++ tried))

-- the phase that is kept at the end is the one of all octets
abbrev pub FinishChooses : OctetReceiving → OctetReceiving → Type 0
FinishChooses before now = (given : List ℕ) (done : List (Handed ItemValue))
    → ReceiverStandsFor before given done → before.has_stopped ≡ false
    → IsChosen before.config given now.stages.inner.chosen

-- ---- codeblocks that are whole

-- a search was given these bits, and all symbols are known
abbrev pub IsSearched : Configuration → (at : ℕ → ℕ) → (count : ℕ) → List Bool → BitReceiver
    → List ItemValue → Type 0
IsSearched c at count bits r items = Searched c at count bits r items × HasSymbols r count at

-- all of them but the last ones were searched, which are in the room, and of which the search passed
-- none
pub record Gathered (c : Configuration) (at : ℕ → ℕ) (count : ℕ) (all : List Bool)
    (r : BitReceiver) (items : List ItemValue) : Type 0 where
  pub bits : List Bool
  pub more : List Bool
  pub are : all ≡ bits ++ more
  pub holds : HoldsMore r.finder r.recent r.batch (due_count c bits) bits more
  pub are_items : AreItemsOf c all (due c bits) items
  pub said : AreAt at count (map place_symbol items)
  pub has : HasSymbols r count at

-- all were searched, and all their places found
abbrev pub IsSettled : Configuration → (at : ℕ → ℕ) → (count : ℕ) → List Bool → BitReceiver
    → List ItemValue → Type 0
IsSettled c at count bits r items = IsSearched c at count bits r items
    × Holds r.finder r.recent r.batch (due_count r.batch.config bits) bits

-- they were the last, and the items of all their places were handed over
abbrev pub IsEnded : Configuration → (at : ℕ → ℕ) → (count : ℕ) → List Bool → BitReceiver
    → List ItemValue → Type 0
IsEnded c at count bits r items = AreItems c bits items × AreAt at count (map place_symbol items)

-- it was given these bits, whose symbols are known, and found these of their places by now; the
-- items of the first `handed` ones were handed over
pub record HasFound (r : BitReceiver) (at : ℕ → ℕ) (count handed : ℕ) (bits : List Bool)
    (found : List Found) : Type 0 where
  pub holds : HoldsFound r.finder r.recent r.batch handed bits found
  pub has : HasSymbols r count at

-- ---- bits that are received

-- As one was with whatever bits were given before, so the other is with these too; the items that
-- are due with them were handed over, and no origin noted.
pub record Receives {T : Type 0}
    (Was Is : Configuration → (ℕ → ℕ) → ℕ → List Bool → BitReceiver → List ItemValue → Type 0)
    (took : T → ItemValue → T → Type 0) (before now : BitReceiver) (taker taker_now : T)
    (bits : List Bool) : Type 0 where
  pub config : now.batch.config ≡ before.batch.config
  pub origins : now.origins ≡ before.origins
  pub items : List ItemValue
  pub handed : HandedOver took taker items taker_now
  pub on : (given : List Bool) (done : List ItemValue) (count : ℕ) (at : ℕ → ℕ)
      → length (given ++ bits) < bits_bound → length (given ++ bits) ≤ count
      → Was before.batch.config at count given before done
      → Is before.batch.config at count (given ++ bits) now (done ++ items)

-- these bits were given to the search
abbrev pub ReceivedAt : {T : Type 0} → (T → ItemValue → T → Type 0) → BitReceiver → BitReceiver
    → T → T → List Bool → Type 0
ReceivedAt took before now taker taker_now bits =
    Receives IsSearched IsSearched took before now taker taker_now bits

-- the same receiver, with these bits in its room besides
abbrev pub with_more : BitReceiver → List Bool → BitReceiver
with_more r more = record r { recent = record r.recent { bits = r.recent.bits ++ more } }

-- an origin was noted, and nothing else is changed
abbrev pub Notes : BitReceiver → BitReceiver → Type 0
Notes before now = now ≡ record before { origins = now.origins }

-- With this origin, that of the bits from the next on, which were received with the inner code, the
-- symbols of all bits are known that are not passed, where they are so many bits before.
abbrev pub NotesOrigin : Configuration → BitReceiver → BitReceiver → (rate : Rate) → (origin : ℕ)
    → Type 0
NotesOrigin c before now rate origin = c.inner ≡ Some rate → (bits : List Bool) (at after : ℕ → ℕ)
    → length bits < bits_bound → BitReceiverStandsFor before bits
    → AreKnown (Some rate) c at (length bits) before
    → ((n : ℕ) → n < length bits → after n ≡ at n)
    → ((n : ℕ) → length bits ≤ n → after n ≡ symbol_by (Some rate) c origin n)
    → ((n : ℕ) → before.finder.passed ≤ n
    → symbol_by (Some rate) c (origin_at now.origins.origins n) n ≡ after n)
    × ((to : ℕ) → length bits + c.keep ≤ to → AreSpaced c.keep to now.origins.origins)

-- ---- octets that are taken

-- the bits that blocks keep
abbrev pub bits_of_blocks : List WindowBlock → List Bool
bits_of_blocks blocks = map (λ bit. bit == 1) (kept_bits blocks)

-- up to `count` further bits make no item due, whatever they are
abbrev pub AreSpare : BitReceiver → ℕ → Type 0
AreSpare r count = (bits more : List Bool) → BitReceiverStandsFor r bits → length more ≤ count
    → due r.batch.config (bits ++ more) ≡ due r.batch.config bits

-- how many bits are spare: one fewer than the codeblocks that the batch lacks have at least with
-- their markers, less those that are not passed; none with one worker
abbrev pub spare_bits : BitReceiver → ℕ
spare_bits r = waiting_bits r.batch.config (r.batch.config.batch - length r.batch.stored)
    - (length r.recent.bits + 1)

-- These octets may not all be buffered in the first stage: with the first of them put in and no
-- window decoded since there is no room for the others, or with all of them the phase is not
-- chosen, or they close windows that keep more than `spare` bits.
abbrev pub MayNotWait : InnerDecoding → List ℕ → ℕ → Type 0
MayNotWait before octets spare = (now : InnerDecoding) × (count : ℕ)
    × ((given : List ℕ) (blocks : List WindowBlock) → before.has_ended ≡ false
    → length given + count < stream_bound → InnerDecoderStandsFor before given blocks
    → InnerDecoderStandsFor now (given ++ take count octets) blocks)
    × HasFilled now.queue (length octets - count)
    × ((count < length octets) ⊎ ClosesMore now.queue spare)

-- blocks were decoded, the bits of all but the ready ones given to the search, and this handed over
pub record Decodes (c : Configuration) (before now : Stages) (given taken : List ℕ)
    (blocks ready : List WindowBlock) (done : List (Handed ItemValue)) : Type 0 where
  pub next : List WindowBlock
  pub progress : Progress c now given taken (blocks ++ next) ready done
  pub all : unread now.inner ≡ None
  pub so_far : before.inner.has_ended ≡ false → IsChosenSoFar c given now.inner.chosen

-- whatever was put in and handed over before, no block was ready then; a phase once chosen stays
pub record Decoded {T : Type 0} (took : T → Handed ItemValue → T → Type 0) (before now : Stages)
    (taker taker_now : T) (ready : List WindowBlock) : Type 0 where
  pub ended : now.inner.has_ended ≡ before.inner.has_ended
  pub stays : (chosen : Chosen) → before.inner.chosen ≡ Some chosen → now.inner.chosen ≡ Some chosen
  pub more : List (Handed ItemValue)
  pub handed : HandedOver took taker more taker_now
  pub decodes : (c : Configuration) (given taken : List ℕ) (blocks : List WindowBlock)
      (done : List (Handed ItemValue)) → Progress c before given taken blocks [] done
      → Decodes c before now given taken blocks ready (done ++ more)
