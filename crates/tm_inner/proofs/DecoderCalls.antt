-- What the calls of a decoder of an inner code do, by those of its queue, and where there is none.
use Rattle.std.proofs.Common.{◌≡◌, ◌⊎◌, inl, inr, ℕ, ◌+◌, ◌-◌, ◌<◌, ◌≤◌, ◌^◌, min, Bool, true, false, List, [], ◌∷◌, ◌++◌, length, drop, take, refl, sym, ap, ◌∙◌, subst, arith, if◌then◌else◌, length-append, length-drop, length-take, Option, Some, None}
use Rattle.std.proofs.lemmas.List.{append-nil, drop-take, length-map}
use Rattle.tm_base.specs.SoftForm.{from_form}
use Rattle.tm_config.specs.Configuration.{Configuration, is_signed}
use Rattle.tm_config.specs.declared.values.Sought.{Sought}
use Rattle.tm_config.specs.declared.values.Sought.TheVariants.{Given, Find}
use Rattle.tm_conv.specs.declared.rates.Rate.{Rate}
use Rattle.tm_viterbi.specs.Clean.{kept_bits}
use Rattle.tm_viterbi.specs.WindowBlock.{WindowBlock}
use Rattle.tm_windows.specs.declared.choosing.Chosen.{Chosen}
use Rattle.tm_windows.specs.Windows.{AreDueIn, dropped_of, slips_of}
use Rattle.tm_windows.specs.Queue.{Queueing, AfterPhase, AwaitsPhase, BeforePhase, IsSameQueue, QueueEndsFor, QueueStandsFor, phase_size, skip_of as skip_in}
use Rattle.tm_inner.specs.Inner.{AreInnerBlocks, AreInnerDue, inner_bits, plain_count, reported_slips, soft_value}
use Rattle.tm_inner.specs.InnerDecoding.{DecodesFor, HasChosen, InnerDecoding, InnerDecoderStandsFor, IsDrained, IsQueueOf, chosen_in, lost_in, plain_phase, plain_phase_by}
use Rattle.tm_inner.specs.Phase.{IsChosen, IsSettled, IsSettledBy, IsSoFarBy, phase_octets, skip_of, skipped_at, with_phase}
use Rattle.tm_inner.specs.Receiving.{HasHanded}
use Rattle.tm_inner.proofs.Counted.{inner-kept}
use Rattle.tm_inner.proofs.Decoders.{choice-by, decoding, due-windows, blocks-plain, blocks-queue, lost-in, settled-chosen, so_far-after, so_far-none, so_far-plain, so_far-queue, stands-plain, stands-queue}
use Rattle.tm_inner.proofs.GivenPieces.{few-soft, phase_octets-more}
use Rattle.tm_inner.proofs.HandedPieces.{needed-some}
use Rattle.tm_inner.proofs.ReceivedBits.{bits-plain}

-- ---- the queue after a call

pub of-same : (c : Configuration) (q now : Queueing) → IsSameQueue q now → IsQueueOf c (Some q) → IsQueueOf c (Some now)
of-same c q now same of = (
  of.0,
  of.1,
  same.windows ∙ of.2,
  elim of.3 as (λ _. ((c.phase ≡ Given) × (now.find ≡ false)) ⊎ ((c.phase ≡ Find) × (now.find ≡ true))) [
    | inl given ↦ inl (given.0, same.find ∙ given.1)
    | inr find ↦ inr (find.0, same.find ∙ find.1)
  ],
)

no-more : (xs ys : List WindowBlock) → xs ++ ys ≡ [] → ys ≡ []
no-more [] ys none = none
no-more (x ∷ xs) ys none = absurd cc

-- with no inner code no octet is skipped
all-octets : (c : Configuration) (given : List ℕ) → c.inner ≡ None → length (phase_octets c given) ≡ length given
all-octets c given none =
    omega (
      arith,
      length-map (drop (skipped_at c.inner c) given) (soft_value c),
      length-drop (skipped_at c.inner c) given,
      ap (λ (r : Option Rate). skipped_at r c) none,
    )

-- ---- decode

-- by a run a decoder that stood for octets stands for them with further blocks; before the end the
-- phase is the one chosen so far
abbrev pub Runs : InnerDecoding → InnerDecoding → List WindowBlock → Type 0
Runs d now ready =
    (given : List ℕ) (blocks : List WindowBlock) → InnerDecoderStandsFor d given blocks
    → InnerDecoderStandsFor now given (blocks ++ ready)
    × (d.has_ended ≡ false → IsSoFarBy now.config (phase_octets now.config given) now.chosen)

pub runs-queue : (c : Configuration) (q now : Queueing) (count : ℕ) (has_phase ended : Bool) → IsQueueOf c (Some q)
    → IsSameQueue q now → q.has_ended ≡ ended → now.has_ended ≡ q.has_ended
    → ((given : List ℕ) (done : List WindowBlock) → QueueStandsFor q given done
    → QueueStandsFor now given (done ++ now.ready))
    → (now.ready ≡ [] → (given : List ℕ) (done : List WindowBlock) → BeforePhase now given done
    → length now.held < phase_size now)
    → Runs (decoding c (Some q) count has_phase ended) (decoding c (Some now) count has_phase ended) now.ready
runs-queue c q now count has_phase ended of same was is stands waits = λ given blocks s.
    let soft = phase_octets c given in
    let all = blocks ++ now.ready in
    let there = of-same c q now same of in
    let stood = stands soft blocks s.decodes in (
      stands-queue c now count has_phase ended given all there (is ∙ was) s.count s.few stood,
      λ going. so_far-queue c now soft all there (is ∙ was ∙ going)
          (λ before. waits (no-more blocks now.ready before.nothing) soft all before) stood,
    )

pub runs-plain : (c : Configuration) (count : ℕ) (has_phase ended : Bool) → c.inner ≡ None
    → Runs (decoding c None count has_phase ended) (decoding c None count has_phase ended) []
runs-plain c count has_phase ended none = λ given blocks s. (
  subst (InnerDecoderStandsFor (decoding c None count has_phase ended) given) (sym (append-nil blocks)) s,
  λ going. subst (λ (b : Bool). IsSoFarBy c (phase_octets c given) (plain_phase c count b)) (sym going)
      (so_far-plain c (phase_octets c given) count c.phase refl none (all-octets c given none ∙ s.count)),
)

-- ---- settle

-- at the end the phase is chosen
abbrev pub Settles : InnerDecoding → InnerDecoding → Type 0
Settles d now =
    (given : List ℕ) (blocks : List WindowBlock) → InnerDecoderStandsFor d given blocks
    → InnerDecoderStandsFor now given blocks × IsChosen now.config given now.chosen

pub settles-queue : (c : Configuration) (q now : Queueing) (count : ℕ) (has_phase ended : Bool) → IsQueueOf c (Some q)
    → IsSameQueue q now → now.has_ended ≡ true
    → ((given : List ℕ) (done : List WindowBlock) → QueueStandsFor q given done → AfterPhase now given done)
    → Settles (decoding c (Some q) count has_phase ended) (decoding c (Some now) count has_phase true)
settles-queue c q now count has_phase ended of same is stands = λ given blocks s.
    let there = of-same c q now same of in
    let a = stands (phase_octets c given) blocks s.decodes in (
      stands-queue c now count has_phase true given blocks there is s.count s.few (inr a),
      choice-by c now (phase_octets c given) now.chosen there a.choice,
    )

pub settles-plain : (c : Configuration) (count : ℕ) (has_phase ended : Bool) → c.inner ≡ None
    → Settles (decoding c None count has_phase ended) (decoding c None count has_phase true)
settles-plain c count has_phase ended none = λ given blocks s.
    let stands = stands-plain c count has_phase true given blocks none s.count s.few s.decodes in (
      stands,
      elim stands.choice as (λ _. IsChosen c given (plain_phase c count true)) [
        | inl waits ↦ absurd (let both : true ≡ false = waits.2 in cc)
        | inr is ↦ is
      ],
    )

-- ---- fill

-- it took the first `taken` of the octets
abbrev pub Takes : InnerDecoding → InnerDecoding → ℕ → List ℕ → Type 0
Takes d now taken octets =
    (given : List ℕ) (blocks : List WindowBlock) → length given + taken < 2 ^ 60
    → InnerDecoderStandsFor d given blocks → InnerDecoderStandsFor now (given ++ take taken octets) blocks

pub takes-queue : (c : Configuration) (q now : Queueing) (count count_now skipped more : ℕ) (has_phase ended : Bool)
    (octets : List ℕ) → IsQueueOf c (Some q) → IsSameQueue q now → q.has_ended ≡ ended → now.has_ended ≡ q.has_ended
    → skipped ≡ min (skipped_at c.inner c - count) (length octets) → count_now ≡ min (count + (skipped + more)) (2 ^ 64 - 1)
    → more ≤ length octets - skipped
    → ((given : List ℕ) (done : List WindowBlock) → QueueStandsFor q given done
    → QueueStandsFor now (given ++ from_form (is_signed c.soft) (take more (drop skipped octets))) done)
    → Takes (decoding c (Some q) count has_phase ended) (decoding c (Some now) count_now has_phase ended)
    (skipped + more) octets
takes-queue c q now count count_now skipped more has_phase ended octets of same was is skip counted most stands =
    λ given blocks few s.
    let piece = take (skipped + more) octets in
    let size : length piece ≡ skipped + more = omega (arith, length-take (skipped + more) octets, most, skip) in
    let long : length given ≡ count = s.count in
    let skips : skipped ≡ min (skipped_at c.inner c - length given) (length piece) =
    omega (arith, skip, most, size, long) in
    let soft : phase_octets c (given ++ piece)
    ≡ phase_octets c given ++ from_form (is_signed c.soft) (take more (drop skipped octets)) =
    phase_octets-more c given piece skipped skips
    ∙ ap (λ (l : List ℕ). phase_octets c given ++ from_form (is_signed c.soft) l) (drop-take skipped more octets) in
    stands-queue c now count_now has_phase ended (given ++ piece) blocks (of-same c q now same of) (is ∙ was)
    (omega (arith, counted, long, size, few, length-append given piece))
    (omega (arith, size, few, length-append given piece))
    (subst (λ (l : List ℕ). QueueStandsFor now l blocks) (sym soft) (stands (phase_octets c given) blocks s.decodes))

pub takes-plain : (c : Configuration) (count count_now : ℕ) (has_phase ended : Bool) (octets : List ℕ)
    → c.inner ≡ None → count_now ≡ min (count + length octets) (2 ^ 64 - 1)
    → Takes (decoding c None count has_phase ended) (decoding c None count_now has_phase ended) (length octets) octets
takes-plain c count count_now has_phase ended octets none counted = λ given blocks few s.
    let piece = take (length octets) octets in
    let long : length given ≡ count = s.count in
    let size : length piece ≡ length octets = omega (arith, length-take (length octets) octets) in
    stands-plain c count_now has_phase ended (given ++ piece) blocks none
    (omega (arith, counted, long, size, few, length-append given piece))
    (omega (arith, size, few, length-append given piece)) s.decodes

-- ---- last

-- a decoder that has ended, whose last block is ready, and what is counted
abbrev pub Ends : InnerDecoding → List WindowBlock → (left bits : ℕ) → Option ℕ → (lost : ℕ) → Type 0
Ends d ready left bits slips lost =
    (given : List ℕ) (blocks : List WindowBlock) → InnerDecoderStandsFor d given blocks
    → IsChosen d.config given d.chosen
    → AreInnerBlocks d.config (skip_of d.chosen) given (blocks ++ ready) left
    × (bits ≡ length (inner_bits d.config given (blocks ++ ready)))
    × (slips ≡ reported_slips d.config (blocks ++ ready))
    × (lost ≡ dropped_of (blocks ++ ready))

coded : (c : Configuration) (q : Queueing) → IsQueueOf c (Some q) → c.inner ≡ None → ⊥
coded c q of none = let both : Some of.0 ≡ None = sym of.1 ∙ none in absurd cc

pub ends-queue : (c : Configuration) (q now : Queueing) (count left : ℕ) (has_phase ended : Bool)
    → IsQueueOf c (Some q) → IsSameQueue q now → now.chosen ≡ q.chosen
    → ((given : List ℕ) (done : List WindowBlock) → QueueStandsFor q given done
    → QueueEndsFor now given (done ++ now.ready) left)
    → Ends (decoding c (Some q) count has_phase ended) now.ready left now.t (if c.follow then Some now.slips else None)
    now.lost
ends-queue c q now count left has_phase ended of same chosen ends = λ given blocks s choice.
    let all = blocks ++ now.ready in
    let e = ends (phase_octets c given) blocks s.decodes in
    let are = blocks-queue c now q.chosen given all left (of-same c q now same of) chosen e in (
      are,
      sym (inner-kept c (skip_of q.chosen) given all left (coded c q of) are ∙ e.kept),
      ap (λ (n : ℕ). if c.follow then Some n else None) (sym e.slips),
      e.lost,
    )

pub ends-plain : (c : Configuration) (count bits : ℕ) (has_phase ended : Bool) → c.inner ≡ None
    → (count < 2 ^ 60 → bits ≡ plain_count c count - c.skip)
    → Ends (decoding c None count has_phase ended) [] 0 bits (if c.follow then Some 0 else None) 0
ends-plain c count bits has_phase ended none counted = λ given blocks s choice.
    let nothing : blocks ++ [] ≡ [] = append-nil blocks ∙ s.decodes in
    let long : length given ≡ count = s.count in (
      blocks-plain c (skip_of (plain_phase c count ended)) given (blocks ++ []) none nothing,
      bits-plain c count bits given (blocks ++ []) none long (counted (omega (arith, s.few, long))),
      ap (λ (l : List WindowBlock). if c.follow then Some (slips_of l) else None) (sym nothing),
      sym (ap dropped_of nothing),
    )

-- ---- may_wait

-- what waits, before the end
abbrev pub Waits : InnerDecoding → ℕ → Type 0
Waits d bits =
    d.has_ended ≡ false → (given : List ℕ) (blocks : List WindowBlock) → InnerDecoderStandsFor d given blocks
    → IsSettled d.config given × IsChosen d.config given d.chosen
    × ((more : List WindowBlock) × (length (kept_bits more) ≤ bits)
    × AreInnerDue d.config (skip_of d.chosen) given (blocks ++ more))

pub waits-queue : (c : Configuration) (q : Queueing) (count bits : ℕ) (has_phase ended : Bool)
    → IsQueueOf c (Some q) → q.has_ended ≡ ended → (AwaitsPhase q → ⊥)
    → ((given : List ℕ) (done : List WindowBlock) → QueueStandsFor q given done
    → (more : List WindowBlock) × (length (kept_bits more) ≤ bits)
    × AreDueIn q.windows (drop (skip_in q.chosen) given) (done ++ more))
    → Waits (decoding c (Some q) count has_phase ended) bits
waits-queue c q count bits has_phase ended of was settled due = λ going given blocks s.
    let soft = phase_octets c given in
    let h = due soft blocks s.decodes in
    elim s.decodes as (λ _. IsSettled c given × IsChosen c given q.chosen × ((more : List WindowBlock)
    × (length (kept_bits more) ≤ bits) × AreInnerDue c (skip_of q.chosen) given (blocks ++ more))) [
      | inl w ↦ absurd (settled w.awaits)
      | inr a ↦ (
        settled-chosen c soft q.chosen (so_far-after c q soft q.chosen of a.choice (a.enough (was ∙ going)))
            (choice-by c q soft q.chosen of a.choice),
        choice-by c q soft q.chosen of a.choice,
        (h.0, h.1, due-windows c q q.chosen given (blocks ++ h.0) of refl h.2),
      )
    ]

-- ---- open

no-octets : (c : Configuration) → phase_octets c [] ≡ []
no-octets c = go (phase_octets c []) (omega (arith, few-soft c []))
  where
    go : (xs : List ℕ) → length xs ≤ 0 → xs ≡ []
    go [] few = refl
    go (x ∷ xs) few = absurd (omega (arith, few))

none-plain : (phase : Sought) → plain_phase_by phase false ≡ None
none-plain Given = refl
none-plain Find = refl

-- no octets don't settle a phase that is to be found
none-settled : (c : Configuration) → 1 ≤ c.keep → IsSettledBy c [] → c.phase ≡ Given
none-settled c some (inl given) = given
none-settled c some (inr many) = absurd (omega (arith, many, needed-some c.inner c some))

none-chosen : (c : Configuration) (queue : Option Queueing) → HasChosen queue None → chosen_in c queue 0 false ≡ None
none-chosen c None is = none-plain c.phase
none-chosen c (Some q) is = is

pub opened : (c : Configuration) (queue : Option Queueing) (has_phase : Bool) → IsQueueOf c queue
    → DecodesFor queue [] [] → IsDrained queue → HasChosen queue None → 1 ≤ c.keep
    → (has_phase ≡ true → c.phase ≡ Given) → HasHanded (decoding c queue 0 has_phase false) [] []
opened c queue has_phase of decodes drained none some given =
    let chosen = chosen_in c queue 0 false in
    let is = none-chosen c queue none in record {
      read = record {
        blocks = [];
        stands = record {
          of = of;
          same = same queue;
          count = refl;
          few = omega arith;
          decodes = subst (λ (l : List ℕ). DecodesFor queue l []) (sym (no-octets c)) decodes;
          lost = lost queue decodes;
          choice = inl (is, refl, refl);
        };
        read = λ has _. given has;
        after = λ _. inl refl;
        are = sym (ap (λ (o : Option Chosen). with_phase o []) (only has_phase chosen is));
      };
      all = not-read has_phase chosen is;
      drained = drained;
      so_far = so_far-none c (phase_octets c []) chosen is
          (λ settled. none-settled c some (subst (IsSettledBy c) (no-octets c) settled));
    }
  where
    same : (queue : Option Queueing) → HasChosen queue (chosen_in c queue 0 false)
    same None = tt
    same (Some q) = refl

    lost : (queue : Option Queueing) → DecodesFor queue [] [] → lost_in queue ≡ 0
    lost None decodes = refl
    lost (Some q) decodes = lost-in q [] [] decodes

    only : (has : Bool) (chosen : Option Chosen) → chosen ≡ None → (if has then chosen else None) ≡ None
    only true chosen none = none
    only false chosen none = refl

    not-read : (has : Bool) (chosen : Option Chosen) → chosen ≡ None → (if has then None else chosen) ≡ None
    not-read true chosen none = refl
    not-read false chosen none = none
