-- The first stage of a receiver: octets that are put in, runs of windows, and the end.
use Rattle.std.proofs.Common.{◌≡◌, ◌==◌, ◌⊎◌, ℕ, zero, suc, inl, inr, Bool, true, false, List, [], ◌++◌, ◌+◌, ◌-◌, ◌*◌, ◌<◌, ◌≤◌, ◌^◌, length, take, drop, refl, sym, ap, ◌∙◌, subst, arith, Option, Some, None}
use Rattle.std.specs.Option.{is_some}
use Rattle.std.proofs.lemmas.List.{length-map, length-take-le, take_all}
use Rattle.tm_config.specs.Configuration.{Configuration}
use Rattle.tm_conv.specs.declared.rates.Rate.{Rate}
use Rattle.tm_viterbi.specs.WindowBlock.{WindowBlock}
use Rattle.tm_viterbi.specs.Clean.{kept_bits}
use Rattle.tm_windows.specs.Windows.{AreFirstIn, Followed, Spot, Windows, dropped_of, first_spot, kept_of}
use Rattle.tm_windows.proofs.FollowedRuns.{kept-append}
use Rattle.tm_windows.proofs.KeptBits.{bits-append, followed-keep, followed-later}
use Rattle.tm_windows.specs.declared.choosing.Chosen.{Chosen}
use Rattle.tm_windows.specs.Queue.{Queueing}
use Rattle.tm_inner.specs.Inner.{AreInnerBlocks, inner_bits, reported_slips, soft_octets, windows_of}
use Rattle.tm_inner.specs.Phase.{IsChosen, IsChosenSoFar, phase_octets, skip_of}
use Rattle.tm_inner.specs.InnerDecoding.{DecodesFor, HasFilled, InnerDecoderStandsFor, InnerDecoding, IsDrained, IsQueueOf, lost_in, origin_in}
use Rattle.tm_inner.specs.Receiving.{FirstAt}
use Rattle.tm_inner.specs.SymbolPlaces.{origin_by}
use Rattle.tm_inner.proofs.Decoders.{IsOrWaits, stands-first}
use Rattle.tm_inner.proofs.DecoderReads.{given-none}
use Rattle.tm_inner.proofs.FollowedBits.{followed-few}
use Rattle.tm_inner.proofs.ReceivedBits.{length-soft}
use Rattle.tm_channel.specs.OctetReceiving.{Notes, NotesOrigin, bits_of_blocks}
use Rattle.tm_channel.specs.declared.bit_receiver.BitReceiver.{BitReceiver}
use Rattle.tm_channel.proofs.Searched.{RunOf}
use Rattle.tm_channel.proofs.SymbolPlaces.{bits-kept}

-- ---- what it goes on to

-- a phase once chosen stays
abbrev pub Stays : Option Chosen → Option Chosen → Type 0
Stays before now = (chosen : Chosen) → before ≡ Some chosen → now ≡ Some chosen

-- it goes on with the same configuration
pub record GoesOn (before now : InnerDecoding) : Type 0 where
  pub config : now.config ≡ before.config
  pub phase : now.has_phase ≡ before.has_phase
  pub stays : Stays before.chosen now.chosen

-- ---- octets are put in

-- it took these octets, and decoded none
pub record Fills (before now : InnerDecoding) (octets : List ℕ) : Type 0 where
  pub on : GoesOn before now
  pub ended : now.has_ended ≡ before.has_ended
  pub coded : is_some before.config.inner ≡ true → now.chosen ≡ before.chosen
  pub stands : (given : List ℕ) (blocks : List WindowBlock) → before.has_ended ≡ false
      → length given + length octets < 2 ^ 60 → InnerDecoderStandsFor before given blocks
      → InnerDecoderStandsFor now (given ++ octets) blocks

pub fills-of : (before now : InnerDecoding) (octets : List ℕ) (taken : ℕ) → GoesOn before now
    → now.has_ended ≡ before.has_ended → (is_some before.config.inner ≡ true → now.chosen ≡ before.chosen)
    → taken ≤ length octets
    → ((given : List ℕ) (blocks : List WindowBlock) → before.has_ended ≡ false → length given + taken < 2 ^ 60
    → InnerDecoderStandsFor before given blocks → InnerDecoderStandsFor now (given ++ take taken octets) blocks)
    → Fills before now (take taken octets)
fills-of before now octets taken on ended coded most stands = record {
  on = on;
  ended = ended;
  coded = coded;
  stands =
      λ given blocks going few stood.
      stands given blocks going (omega (arith, few, length-take-le taken octets most)) stood;
}

-- ---- runs of windows

-- it decoded these blocks
pub record Runs (before now : InnerDecoding) (ready : List WindowBlock) : Type 0 where
  pub on : GoesOn before now
  pub ended : now.has_ended ≡ before.has_ended
  pub stands : (given : List ℕ) (blocks : List WindowBlock) → InnerDecoderStandsFor before given blocks
      → InnerDecoderStandsFor now given (blocks ++ ready)
      × (before.has_ended ≡ false → IsChosenSoFar now.config given now.chosen)

-- how much is left for runs: what is held, and one run more, until one of no window
abbrev pub left_for : ℕ → ℕ → ℕ
left_for zero held = 0
left_for (suc count) held = 1 + held

pub left-falls : (count next held before : ℕ) → 0 < count → (0 < next → held < before)
    → left_for next held < left_for count before
left-falls zero next held before some shorter = absurd (omega (arith, some))
left-falls (suc count) zero held before some shorter =
    let now : left_for zero held ≡ 0 = refl in
    let was : left_for (suc count) before ≡ 1 + before = refl in
    omega (arith, now, was)
left-falls (suc count) (suc next) held before some shorter =
    let now : left_for (suc next) held ≡ 1 + held = refl in
    let was : left_for (suc count) before ≡ 1 + before = refl in
    omega (arith, now, was, shorter (omega arith))

-- once blocks are decoded the phase stays
pub phase-stays : (before now : InnerDecoding) (given longer : List ℕ) (done all : List WindowBlock)
    → now.config ≡ before.config
    → Stays before.chosen now.chosen → InnerDecoderStandsFor before given done → InnerDecoderStandsFor now longer all
    → (now.chosen ≡ before.chosen) ⊎ (done ≡ [])
phase-stays before now given longer done all config stays stood stands = go before.chosen stays stood.choice
  where
    go : (chosen : Option Chosen) → Stays chosen now.chosen
        → IsOrWaits before.config (phase_octets before.config given) chosen done before.has_ended
        → (now.chosen ≡ chosen) ⊎ (done ≡ [])
    go (Some chosen) stays choice = inl (stays chosen refl)
    go None stays (inl waits) = inr waits.1
    go None stays (inr is) = inl (given-none now.config (phase_octets now.config longer) now.chosen all now.has_ended
        (ap (λ (k : Configuration). k.phase) config ∙ is) stands.choice)

-- what is noted before the bits of a run
abbrev pub NotesRun : InnerDecoding → BitReceiver → BitReceiver → ℕ → Type 0
NotesRun d r m origin = Notes r m × ((rate : Rate) → NotesOrigin r.batch.config r m rate origin)
    × (origin ≡ origin_in d) × (origin < 2 ^ 63 + 2 ^ 62)

-- the bits of the blocks are as many as their windows keep, and no more than octets were given
pub first-kept : (d : InnerDecoding) (given : List ℕ) (done : List WindowBlock) (rate : Rate)
    → d.config.inner ≡ Some rate
    → InnerDecoderStandsFor d given done → (w : Windows) × (w.settings.keep ≡ d.config.keep)
    × ((to : Spot) × ((from : Spot) × Followed w from done to))
    × (length (bits_of_blocks done) < 2 ^ 60)
first-kept d given done rate is stands =
    let c = d.config in
    let phase = skip_of d.chosen in
    let soft = soft_octets c phase given in
    let w = windows_of c rate in
    let first : AreFirstIn w soft done =
    subst (λ (o : Option Rate). FirstAt o c phase given done) is (stands-first d given done stands) in (
      w,
      refl,
      (first.0, (first_spot w soft, first.1)),
      omega (
        arith,
        followed-few w soft done first,
        length-soft c phase given,
        length-map (kept_bits done) (λ bit. bit == 1),
        stands.few,
      ),
    )

pub origin-coded : (d : InnerDecoding) (rate : Rate) (lost : ℕ) → d.config.inner ≡ Some rate → lost_in d.queue ≡ lost
    → origin_in d ≡ d.config.skip + skip_of d.chosen + lost
origin-coded d rate lost is dropped =
    ap (λ (o : Option Rate). origin_by o d.config (skip_of d.chosen) (lost_in d.queue)) is
    ∙ ap (λ k. d.config.skip + skip_of d.chosen + k) dropped

-- what is known of the run
pub run-of : (c : Configuration) (d : InnerDecoding) (given : List ℕ) (done ready : List WindowBlock)
    (r m : BitReceiver) (origin : ℕ) (rate : Rate) → d.config ≡ c → r.batch.config ≡ c → c.inner ≡ Some rate
    → dropped_of (drop 1 ready) ≡ 0 → InnerDecoderStandsFor d given (done ++ ready) → NotesRun d r m origin
    → RunOf c rate (skip_of d.chosen) origin done ready r m
    × ((0 < length ready) → length (bits_of_blocks done) + c.keep ≤ length (bits_of_blocks (done ++ ready)))
run-of c d given done ready r m origin rate same of is later stands noted =
    let rate_is = ap (λ (v : Configuration). v.inner) same ∙ is in
    let k = first-kept d given (done ++ ready) rate rate_is stands in
    let w = k.0 in
    let all = followed-keep w k.2.1.0 k.2.0 (done ++ ready) k.2.1.1 in
    let rest = followed-later w k.2.1.0 k.2.0 done ready k.2.1.1 in
    let is_one : ℕ → Bool = λ bit. bit == 1 in
    let both = bits-append done ready in
    let here : length (kept_bits done) ≡ kept_of done =
    omega (arith, all, both, kept-append done ready, bits-kept done, bits-kept ready) in
    let size = length-map (kept_bits done) is_one in
    let size_all = length-map (kept_bits (done ++ ready)) is_one in (
      record {
        rate_is = is;
        notes = noted.0;
        noted = subst (λ (v : Configuration). NotesOrigin v r m rate origin) of (noted.1 rate);
        origin_is = noted.2 ∙ origin-coded d rate (dropped_of (done ++ ready)) rate_is stands.lost
            ∙ ap (λ (v : Configuration). v.skip + skip_of d.chosen + dropped_of (done ++ ready)) same;
        few_dropped = noted.3;
        later = later;
        kept = size ∙ here;
        few = k.3;
      },
      λ some. let one : w.settings.keep ≤ length ready * w.settings.keep = at-least
          (length ready) w.settings.keep some in
          omega (arith, size, size_all, both, rest, one, k.1, ap (λ (v : Configuration). v.keep) same),
    )
  where
    at-least : (n keep : ℕ) → 0 < n → keep ≤ n * keep
    at-least zero keep some = absurd (omega (arith, some))
    at-least (suc n) keep some = omega arith

-- whether the phase was read does not matter
pub stands-read : (d : InnerDecoding) (read : Bool) (given : List ℕ) (blocks : List WindowBlock)
    → InnerDecoderStandsFor d given blocks → InnerDecoderStandsFor (record d { has_phase = read }) given blocks
stands-read d read given blocks s = record {
  of = s.of;
  same = s.same;
  count = s.count;
  few = s.few;
  decodes = s.decodes;
  lost = s.lost;
  choice = s.choice;
}

-- ---- with no inner code

none-by : (c : Configuration) (queue : Option Queueing) (soft : List ℕ) (blocks : List WindowBlock)
    → IsQueueOf c queue → is_some c.inner ≡ false → DecodesFor queue soft blocks → blocks ≡ []
none-by c None soft blocks of none decodes = decodes
none-by c (Some queue) soft blocks of none decodes = absurd (let is = ap is_some of.1 in cc)

pub plain-none : (d : InnerDecoding) (given : List ℕ) (blocks : List WindowBlock) → is_some d.config.inner ≡ false
    → InnerDecoderStandsFor d given blocks → blocks ≡ []
plain-none d given blocks none stands =
    none-by d.config d.queue (phase_octets d.config given) blocks stands.of none stands.decodes

-- where there is no queue none is left
filled-all : (c : Configuration) (queue : Option Queueing) (left : ℕ) → IsQueueOf c queue → is_some c.inner ≡ false
    → HasFilled queue left → left ≡ 0
filled-all c None left of plain filled = filled
filled-all c (Some queue) left of plain filled = absurd (let is = ap is_some of.1 in cc)

-- and there are no windows
pub drained-plain : (c : Configuration) (queue : Option Queueing) → IsQueueOf c queue → is_some c.inner ≡ false
    → IsDrained queue
drained-plain c None of plain = tt
drained-plain c (Some queue) of plain = absurd (let is = ap is_some of.1 in cc)

-- all octets are taken
pub plain-fills : (inner now : InnerDecoding) (octets : List ℕ) (count : ℕ) → is_some inner.config.inner ≡ false
    → GoesOn inner now → now.has_ended ≡ inner.has_ended → count ≤ length octets
    → HasFilled now.queue (length octets - count)
    → ((given : List ℕ) (blocks : List WindowBlock) → inner.has_ended ≡ false
    → length given + count < 2 ^ 60 → InnerDecoderStandsFor inner given blocks
    → InnerDecoderStandsFor now (given ++ take count octets) blocks)
    → Fills inner now octets
plain-fills inner now octets count plain on ended most filled stands = record {
  on = on;
  ended = ended;
  coded = λ coded. absurd (let both = sym plain ∙ coded in cc);
  stands = λ given blocks going few stood.
      let there = stands given blocks going (omega (arith, few, most)) stood in
      let none = filled-all now.config now.queue (length octets - count) there.of
      (ap (λ (c : Configuration). is_some c.inner) on.config ∙ plain) filled in
      subst (λ (l : List ℕ). InnerDecoderStandsFor now (given ++ l) blocks)
      (take_all count octets (omega (arith, none))) there;
}

-- ---- the end of the octets

-- no octets come any more, and the phase is chosen
pub record Settles (before now : InnerDecoding) : Type 0 where
  pub on : GoesOn before now
  pub ended : now.has_ended ≡ true
  pub stands : (given : List ℕ) (blocks : List WindowBlock) → InnerDecoderStandsFor before given blocks
      → InnerDecoderStandsFor now given blocks

pub settles-of : (before now : InnerDecoding) → GoesOn before now → now.has_ended ≡ true
    → ((given : List ℕ) (blocks : List WindowBlock) → InnerDecoderStandsFor before given blocks
    → InnerDecoderStandsFor now given blocks × IsChosen now.config given now.chosen) → Settles before now
settles-of before now on ended stands =
    record { on = on; ended = ended; stands = λ given blocks stood. (stands given blocks stood).0 }

-- the last window is decoded
abbrev pub Ending : InnerDecoding → Option Queueing → List WindowBlock → ℕ → ℕ → Option ℕ → Type 0
Ending d queue ready left bits slips =
    (given : List ℕ) (blocks : List WindowBlock) → InnerDecoderStandsFor d given blocks
    → IsChosen d.config given d.chosen
    → AreInnerBlocks d.config (skip_of d.chosen) given (blocks ++ ready) left
    × (bits ≡ length (inner_bits d.config given (blocks ++ ready)))
    × (slips ≡ reported_slips d.config (blocks ++ ready)) × (lost_in queue ≡ dropped_of (blocks ++ ready))

pub chosen-ended : (d : InnerDecoding) (given : List ℕ) (blocks : List WindowBlock)
    → InnerDecoderStandsFor d given blocks → d.has_ended ≡ true → IsChosen d.config given d.chosen
chosen-ended d given blocks stands ended = elim stands.choice as (λ _. IsChosen d.config given d.chosen) [
  | inl none ↦ absurd (let both : true ≡ false = sym ended ∙ none.2 in cc)
  | inr is ↦ is
]
