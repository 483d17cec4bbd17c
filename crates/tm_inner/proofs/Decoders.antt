-- The decoder of an inner code: its phase, and the blocks that were decoded, for the octets given.
use Rattle.std.proofs.Common.{◌≡◌, ◌⊎◌, inl, inr, ℕ, ◌+◌, ◌<◌, ◌≤◌, ◌^◌, nat_lt, ◌||◌, Bool, true, false, List, [], length, drop, refl, sym, ap, ◌∙◌, subst, arith, Option, Some, None}
use Rattle.std.proofs.lemmas.Bool.Decides.{nat_tests}
use Rattle.tm_config.specs.Configuration.{Configuration}
use Rattle.tm_config.specs.declared.values.Sought.{Sought}
use Rattle.tm_config.specs.declared.values.Sought.TheVariants.{Given, Find}
use Rattle.tm_config.proofs.Choices.{never_both}
use Rattle.tm_conv.specs.declared.rates.Rate.{Rate}
use Rattle.tm_viterbi.specs.WindowBlock.{WindowBlock}
use Rattle.tm_windows.specs.declared.choosing.Chosen.{Chosen}
use Rattle.tm_windows.specs.Phase.{IsPhase, octets_needed}
use Rattle.tm_windows.specs.Windows.{Windows, AreBlocksIn, AreDueIn, AreFirstIn, dropped_of}
use Rattle.tm_windows.specs.Queue.{Queueing, AfterPhase, AwaitsPhase, BeforePhase, IsChoice, IsOpen, QueueEndsFor, QueueStandsFor, phase_size, skip_of as skip_in}
use Rattle.tm_windows.proofs.HeldOctets.{open-due}
use Rattle.tm_inner.specs.Inner.{AreInnerBlocks, AreInnerDue, BlocksAt, DueAt, soft_octets, windows_of}
use Rattle.tm_inner.specs.InnerDecoding.{DecodesFor, HasChosen, InnerDecoding, InnerDecoderStandsFor, IsDrained, IsQueueOf, chosen_in, plain_phase_by}
use Rattle.tm_inner.specs.Phase.{IsChosen, IsChosenBy, IsSettledBy, IsSoFarBy, PhaseAt, needed_at, phase_octets, skip_of, skipped_at}
use Rattle.tm_inner.specs.Receiving.{AreInnerFirst, FirstAt}
use Rattle.tm_inner.proofs.GivenPieces.{soft-after}

-- what contracts see of a decoder with these fields
abbrev pub decoding : Configuration → Option Queueing → (count : ℕ) → (has_phase has_ended : Bool) → InnerDecoding
decoding config queue count has_phase has_ended = record {
  config = config;
  queue = queue;
  count = count;
  chosen = chosen_in config queue count has_ended;
  has_phase = has_phase;
  has_ended = has_ended;
}

-- the phase is still to be chosen, or it is chosen
abbrev pub IsOrWaits : Configuration → List ℕ → Option Chosen → List WindowBlock → Bool → Type 0
IsOrWaits c soft chosen blocks ended =
    ((chosen ≡ None) × (blocks ≡ []) × (ended ≡ false)) ⊎ IsChosenBy c soft chosen

-- ---- the choice

pub choice-by : (c : Configuration) (q : Queueing) (soft : List ℕ) (chosen : Option Chosen) → IsQueueOf c (Some q)
    → IsChoice q soft chosen → IsChosenBy c soft chosen
choice-by c q soft None of is = elim of.3 as (λ _. c.phase ≡ Given) [
  | inl given ↦ given.0
  | inr find ↦ absurd (is find.1)
]
choice-by c q soft (Some chosen) of is = (
  elim of.3 as (λ _. c.phase ≡ Find) [
    | inl given ↦ absurd (let both : true ≡ false = sym is.0 ∙ given.1 in cc)
    | inr find ↦ find.0
  ],
  subst (λ (r : Option Rate). PhaseAt r c soft chosen) (sym of.1)
      (subst (λ (w : Windows). IsPhase w.settings.rate w.settings.invert (w.settings.keep + w.settings.ahead) soft chosen)
      of.2 is.1),
)

pub choice-queue : (c : Configuration) (q : Queueing) (soft : List ℕ) (blocks : List WindowBlock) (ended : Bool)
    → IsQueueOf c (Some q) → q.has_ended ≡ ended → QueueStandsFor q soft blocks
    → IsOrWaits c soft q.chosen blocks ended
choice-queue c q soft blocks ended of same (inl w) = inl (w.awaits.1, w.nothing, sym same ∙ w.going)
choice-queue c q soft blocks ended of same (inr a) = inr (choice-by c q soft q.chosen of a.choice)

-- with no inner code it is phase 0 from the first octet on
zero-phase : (c : Configuration) (soft : List ℕ) → c.inner ≡ None
    → PhaseAt c.inner c soft (record { skip = 0; cost = 0 })
zero-phase c soft none =
    subst (λ (r : Option Rate). PhaseAt r c soft (record { skip = 0; cost = 0 })) (sym none) (refl, refl)

pub choice-plain : (c : Configuration) (soft : List ℕ) (blocks : List WindowBlock) (some ended : Bool) (phase : Sought)
    → c.phase ≡ phase → c.inner ≡ None → blocks ≡ []
    → IsOrWaits c soft (plain_phase_by phase (some || ended)) blocks ended
choice-plain c soft blocks some ended Given is none nothing = inr is
choice-plain c soft blocks true ended Find is none nothing = inr (is, zero-phase c soft none)
choice-plain c soft blocks false true Find is none nothing = inr (is, zero-phase c soft none)
choice-plain c soft blocks false false Find is none nothing = inl (refl, nothing, refl)

-- ---- for which octets it stands

pub lost-in : (q : Queueing) (soft : List ℕ) (blocks : List WindowBlock) → QueueStandsFor q soft blocks
    → q.lost ≡ dropped_of blocks
lost-in q soft blocks (inl w) = w.nothing_lost ∙ sym (ap dropped_of w.nothing)
lost-in q soft blocks (inr a) = a.lost

pub stands-queue : (c : Configuration) (q : Queueing) (count : ℕ) (has_phase ended : Bool) (given : List ℕ)
    (blocks : List WindowBlock) → IsQueueOf c (Some q) → q.has_ended ≡ ended → length given ≡ count
    → length given < 2 ^ 60 → QueueStandsFor q (phase_octets c given) blocks
    → InnerDecoderStandsFor (decoding c (Some q) count has_phase ended) given blocks
stands-queue c q count has_phase ended given blocks of same long few stood = record {
  of = of;
  same = refl;
  count = long;
  few = few;
  decodes = stood;
  lost = lost-in q (phase_octets c given) blocks stood;
  choice = choice-queue c q (phase_octets c given) blocks ended of same stood;
}

pub stands-plain : (c : Configuration) (count : ℕ) (has_phase ended : Bool) (given : List ℕ)
    (blocks : List WindowBlock) → c.inner ≡ None → length given ≡ count → length given < 2 ^ 60 → blocks ≡ []
    → InnerDecoderStandsFor (decoding c None count has_phase ended) given blocks
stands-plain c count has_phase ended given blocks none long few nothing = record {
  of = none;
  same = tt;
  count = long;
  few = few;
  decodes = nothing;
  lost = sym (ap dropped_of nothing);
  choice = choice-plain c (phase_octets c given) blocks (nat_lt 0 count) ended c.phase refl none nothing;
}

-- ---- the phase that is settled

pub settled-chosen : (c : Configuration) (soft : List ℕ) (chosen : Option Chosen) → IsSoFarBy c soft chosen
    → IsChosenBy c soft chosen → IsSettledBy c soft
settled-chosen c soft None so_far is = inl is
settled-chosen c soft (Some chosen) so_far is = so_far.0

-- before the choice, where too few octets are there
pub so_far-none : (c : Configuration) (soft : List ℕ) (chosen : Option Chosen) → chosen ≡ None
    → (IsSettledBy c soft → c.phase ≡ Given) → IsSoFarBy c soft chosen
so_far-none c soft None none unsettled = unsettled
so_far-none c soft (Some chosen) none unsettled = absurd cc

needed-size : (c : Configuration) (q : Queueing) → IsQueueOf c (Some q) → needed_at c.inner c ≡ phase_size q
needed-size c q of =
    ap (λ (r : Option Rate). needed_at r c) of.1
    ∙ ap (λ (w : Windows). octets_needed w.settings.rate (w.settings.keep + w.settings.ahead)) (sym of.2)

pub so_far-after : (c : Configuration) (q : Queueing) (soft : List ℕ) (chosen : Option Chosen) → IsQueueOf c (Some q)
    → IsChoice q soft chosen → (q.find ≡ true → phase_size q ≤ length soft) → IsSoFarBy c soft chosen
so_far-after c q soft None of is enough = λ settled. choice-by c q soft None of is
so_far-after c q soft (Some chosen) of is enough =
    (inr (omega (arith, enough is.0, needed-size c q of)), choice-by c q soft (Some chosen) of is)

-- once nothing is due, or blocks were decoded, before the end
pub so_far-queue : (c : Configuration) (q : Queueing) (soft : List ℕ) (blocks : List WindowBlock)
    → IsQueueOf c (Some q) → q.has_ended ≡ false → (BeforePhase q soft blocks → length q.held < phase_size q)
    → QueueStandsFor q soft blocks → IsSoFarBy c soft q.chosen
so_far-queue c q soft blocks of going waits (inl w) =
    so_far-none c soft q.chosen w.awaits.1 (λ settled. elim settled as (λ _. c.phase ≡ Given) [
      | inl given ↦ given
      | inr many ↦ absurd (omega (arith, many, needed-size c q of, waits w, ap length w.held))
    ])
so_far-queue c q soft blocks of going waits (inr a) =
    so_far-after c q soft q.chosen of a.choice (a.enough going)

pub so_far-plain : (c : Configuration) (soft : List ℕ) (count : ℕ) (phase : Sought) → c.phase ≡ phase
    → c.inner ≡ None → length soft ≡ count → IsSoFarBy c soft (plain_phase_by phase (nat_lt 0 count || false))
so_far-plain c soft count Given is none long = λ settled. is
so_far-plain c soft count Find is none long = by_count (nat_lt 0 count) (λ some. grind (arith, nat_tests))
    (λ nothing. grind (arith, nat_tests))
  where
    by_count : (some : Bool) → (some ≡ true → 0 < count) → (some ≡ false → count ≡ 0)
        → IsSoFarBy c soft (plain_phase_by Find (some || false))
    by_count true has none_yet = (
      inr (subst (λ (r : Option Rate). needed_at r c ≤ length soft) (sym none) (omega (arith, has refl, long))),
      (is, zero-phase c soft none),
    )
    by_count false has none_yet = λ settled. elim settled as (λ _. c.phase ≡ Given) [
      | inl given ↦ given
      | inr many ↦ absurd (omega (
        arith,
        subst (λ (r : Option Rate). needed_at r c ≤ length soft) none many,
        long,
        none_yet refl,
      ))
    ]

-- ---- the blocks

after-phase : (c : Configuration) (q : Queueing) (chosen : Option Chosen) (given : List ℕ) → IsQueueOf c (Some q)
    → q.chosen ≡ chosen → drop (skip_of q.chosen) (phase_octets c given) ≡ soft_octets c (skip_of chosen) given
after-phase c q chosen given of same =
    ap (λ (o : Option Chosen). drop (skip_of o) (phase_octets c given)) same
    ∙ soft-after c (skip_of chosen) (skipped_at c.inner c) given (ap (λ (r : Option Rate). skipped_at r c) of.1)

-- what holds of the windows of a queue's octets holds of those of received octets
in-windows : (P : Windows → List ℕ → Type 0) (c : Configuration) (q : Queueing) (chosen : Option Chosen)
    (given : List ℕ) (of : IsQueueOf c (Some q)) → q.chosen ≡ chosen
    → P q.windows (drop (skip_of q.chosen) (phase_octets c given))
    → P (windows_of c of.0) (soft_octets c (skip_of chosen) given)
in-windows P c q chosen given of same h =
    subst (λ (w : Windows). P w (soft_octets c (skip_of chosen) given)) of.2
    (subst (P q.windows) (after-phase c q chosen given of same) h)

first-none : (rate : Option Rate) (c : Configuration) (phase : ℕ) (given : List ℕ) → FirstAt rate c phase given []
first-none None c phase given = refl
first-none (Some rate) c phase given = (_, refl)

first-in : (queue : Option Queueing) (c : Configuration) (chosen : Option Chosen) (given : List ℕ)
    (blocks : List WindowBlock) → IsQueueOf c queue → HasChosen queue chosen
    → DecodesFor queue (phase_octets c given) blocks → AreInnerFirst c (skip_of chosen) given blocks
first-in None c chosen given blocks of same is =
    subst (λ (r : Option Rate). FirstAt r c (skip_of chosen) given blocks) (sym of) is
first-in (Some q) c chosen given blocks of same (inl w) =
    subst (AreInnerFirst c (skip_of chosen) given) (sym w.nothing) (first-none c.inner c (skip_of chosen) given)
first-in (Some q) c chosen given blocks of same (inr a) =
    subst (λ (r : Option Rate). FirstAt r c (skip_of chosen) given blocks) (sym of.1)
    (in-windows (λ w soft. AreFirstIn w soft blocks) c q chosen given of same (a.to, a.closed))

-- the blocks are those of first windows, each of them closed
pub stands-first : (d : InnerDecoding) (given : List ℕ) (blocks : List WindowBlock)
    → InnerDecoderStandsFor d given blocks → AreInnerFirst d.config (skip_of d.chosen) given blocks
stands-first d given blocks s = first-in d.queue d.config d.chosen given blocks s.of s.same s.decodes

-- all windows but the last are closed, where nothing is left to decode
due-after : (q : Queueing) (soft : List ℕ) (blocks : List WindowBlock) → IsOpen q
    → (AwaitsPhase q → ⊥) → AfterPhase q soft blocks → AreDueIn q.windows (drop (skip_in q.chosen) soft) blocks
due-after q soft blocks is_open settled a =
    elim is_open.few as (λ _. AreDueIn q.windows (drop (skip_in q.chosen) soft) blocks) [
      | inl awaits ↦ absurd (settled awaits.0)
      | inr few ↦ open-due q soft blocks a few.1
    ]

-- a queue whose phase is chosen, or given
chosen-settled : (c : Configuration) (q : Queueing) (soft : List ℕ) → IsQueueOf c (Some q)
    → IsChosenBy c soft q.chosen → AwaitsPhase q → ⊥
chosen-settled c q soft of is awaits =
    let given : c.phase ≡ Given = subst (IsChosenBy c soft) awaits.1 is in
    elim of.3 as (λ _. ⊥) [
      | inl none ↦ (let both : true ≡ false = sym awaits.0 ∙ none.1 in absurd cc)
      | inr find ↦ never_both c.phase given find.0
    ]

-- blocks that are due in a queue's windows are due of received octets
pub due-windows : (c : Configuration) (q : Queueing) (chosen : Option Chosen) (given : List ℕ)
    (blocks : List WindowBlock) → IsQueueOf c (Some q) → q.chosen ≡ chosen
    → AreDueIn q.windows (drop (skip_in q.chosen) (phase_octets c given)) blocks
    → AreInnerDue c (skip_of chosen) given blocks
due-windows c q chosen given blocks of same due =
    subst (λ (r : Option Rate). DueAt r c (skip_of chosen) given blocks) (sym of.1)
    (in-windows (λ w soft. AreDueIn w soft blocks) c q chosen given of same due)

due-in : (queue : Option Queueing) (c : Configuration) (chosen : Option Chosen) (given : List ℕ)
    (blocks : List WindowBlock) → IsQueueOf c queue → HasChosen queue chosen → IsDrained queue
    → IsChosenBy c (phase_octets c given) chosen → DecodesFor queue (phase_octets c given) blocks
    → AreInnerDue c (skip_of chosen) given blocks
due-in None c chosen given blocks of same drained choice is =
    subst (λ (r : Option Rate). DueAt r c (skip_of chosen) given blocks) (sym of) is
due-in (Some q) c chosen given blocks of same drained choice stood =
    let settled = chosen-settled c q (phase_octets c given) of
    (subst (IsChosenBy c (phase_octets c given)) (sym same) choice) in
    elim stood as (λ _. AreInnerDue c (skip_of chosen) given blocks) [
      | inl w ↦ absurd (settled w.awaits)
      | inr a ↦ due-windows c q chosen given blocks of same
          (due-after q (phase_octets c given) blocks drained settled a)
    ]

-- all blocks that are due were decoded, where nothing is left to decode
pub stands-due : (d : InnerDecoding) (given : List ℕ) (blocks : List WindowBlock)
    → InnerDecoderStandsFor d given blocks → IsDrained d.queue → IsChosen d.config given d.chosen
    → AreInnerDue d.config (skip_of d.chosen) given blocks
stands-due d given blocks s drained choice =
    due-in d.queue d.config d.chosen given blocks s.of s.same drained choice s.decodes

-- all blocks, once a queue has ended
pub blocks-queue : (c : Configuration) (q : Queueing) (chosen : Option Chosen) (given : List ℕ)
    (blocks : List WindowBlock) (left : ℕ) → IsQueueOf c (Some q) → q.chosen ≡ chosen
    → QueueEndsFor q (phase_octets c given) blocks left → AreInnerBlocks c (skip_of chosen) given blocks left
blocks-queue c q chosen given blocks left of same ends =
    subst (λ (r : Option Rate). BlocksAt r c (skip_of chosen) given blocks left) (sym of.1)
    (in-windows (λ w soft. AreBlocksIn w soft blocks left) c q chosen given of same ends.blocks)

pub blocks-plain : (c : Configuration) (phase : ℕ) (given : List ℕ) (blocks : List WindowBlock) → c.inner ≡ None
    → blocks ≡ [] → AreInnerBlocks c phase given blocks 0
blocks-plain c phase given blocks none is =
    subst (λ (r : Option Rate). BlocksAt r c phase given blocks 0) (sym none) (is, refl)
