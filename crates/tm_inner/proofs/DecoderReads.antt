-- A decoder of an inner code that is read: its phase, once it is chosen, and then blocks.
use Rattle.std.proofs.Common.{◌≡◌, ◌⊎◌, inl, inr, ℕ, ◌||◌, Bool, true, false, List, [], ◌∷◌, ◌++◌, map, refl, sym, ap, ◌∙◌, subst, if◌then◌else◌, Option, Some, None}
use Rattle.std.specs.Option.{is_some}
use Rattle.tm_base.specs.Handed.{Handed, Phase, Item}
use Rattle.tm_config.specs.Configuration.{Configuration}
use Rattle.tm_config.specs.declared.values.Sought.TheVariants.{Given}
use Rattle.tm_config.proofs.Choices.{given_or_find, never_both}
use Rattle.tm_viterbi.specs.WindowBlock.{WindowBlock}
use Rattle.tm_windows.specs.declared.choosing.Chosen.{Chosen}
use Rattle.tm_inner.specs.InnerDecoding.{InnerDecoding, InnerDecoderStandsFor, has_phase_now, unread}
use Rattle.tm_inner.specs.Phase.{IsChosen, IsChosenBy, IsChosenSoFar, WithPhase, phase_octets, with_phase}
use Rattle.tm_inner.specs.Receiving.{AreInnerFirst, HasHanded, HasRead}
use Rattle.tm_inner.specs.Handing.{AreHandedDue, IsKept}
use Rattle.tm_inner.proofs.PhasePieces.{further}
use Rattle.tm_inner.proofs.Decoders.{IsOrWaits, settled-chosen, stands-due, stands-first}

-- ---- the phase, once chosen, stays

abbrev pub Stays : InnerDecoding → InnerDecoding → Type 0
Stays before now = (chosen : Chosen) → before.chosen ≡ Some chosen → now.chosen ≡ Some chosen

-- where the phase is given none is chosen
pub given-none : (c : Configuration) (soft : List ℕ) (chosen : Option Chosen) (blocks : List WindowBlock) (ended : Bool)
    → c.phase ≡ Given → IsOrWaits c soft chosen blocks ended → chosen ≡ None
given-none c soft chosen blocks ended given (inl waits) = waits.0
given-none c soft None blocks ended given (inr is) = refl
given-none c soft (Some chosen) blocks ended given (inr is) = absurd (never_both c.phase given is.0)

same-chosen : (c : Configuration) (soft : List ℕ) (before now : Option Chosen) (blocks : List WindowBlock)
    (ended : Bool) → ((chosen : Chosen) → before ≡ Some chosen → now ≡ Some chosen)
    → (before ≡ None → c.phase ≡ Given) → IsOrWaits c soft now blocks ended → before ≡ now
same-chosen c soft None now blocks ended stays given choice =
    sym (given-none c soft now blocks ended (given refl) choice)
same-chosen c soft (Some chosen) now blocks ended stays given choice = sym (stays chosen refl)

-- of a decoder whose phase was read it is the same later
read-chosen : (d now : InnerDecoding) (given given_now : List ℕ) (done : List (Handed WindowBlock))
    (blocks : List WindowBlock) → now.config ≡ d.config → Stays d now → HasRead d given done
    → InnerDecoderStandsFor now given_now blocks → d.has_phase ≡ true → d.chosen ≡ now.chosen
read-chosen d now given given_now done blocks config stays r s has =
    same-chosen now.config (phase_octets now.config given_now) d.chosen now.chosen blocks now.has_ended stays
    (λ none. ap (λ (c : Configuration). c.phase) config ∙ r.read has none) s.choice

-- ---- a decoder that was given more, or has ended

same-read : (has : Bool) (before now : Option Chosen) → (has ≡ true → before ≡ now)
    → (if has then before else None) ≡ (if has then now else None)
same-read true before now same = same refl
same-read false before now same = refl

pub read-on : (d now : InnerDecoding) (given given_now : List ℕ) (done : List (Handed WindowBlock))
    → now.config ≡ d.config → now.has_phase ≡ d.has_phase → Stays d now → (r : HasRead d given done)
    → InnerDecoderStandsFor now given_now r.blocks → HasRead now given_now done
read-on d now given given_now done config phase stays r s =
    let chosen = read-chosen d now given given_now done r.blocks config stays r s in
    let same : now.config.phase ≡ d.config.phase = ap (λ (c : Configuration). c.phase) config in record {
      blocks = r.blocks;
      stands = s;
      read = λ has none. let was = sym phase ∙ has in same ∙ r.read was (chosen was ∙ none);
      after = λ none. elim (r.after (sym phase ∙ none)) as (λ _. (r.blocks ≡ []) ⊎ (now.config.phase ≡ Given)) [
        | inl nothing ↦ inl nothing
        | inr given ↦ inr (same ∙ given)
      ];
      are = r.are ∙ ap (λ (o : Option Chosen). with_phase o r.blocks) (same-read d.has_phase d.chosen now.chosen chosen
          ∙ ap (λ (b : Bool). if b then now.chosen else None) (sym phase));
    }

-- ---- a run of windows, decoded and read

-- the decoder after its phase was read
abbrev pub after_read : InnerDecoding → InnerDecoding
after_read d = record d { has_phase = has_phase_now d }

-- what is read of it: the phase, where it was chosen since, and the blocks that are ready
abbrev pub read_of : InnerDecoding → List WindowBlock → List (Handed WindowBlock)
read_of d ready = with_phase (unread d) [] ++ map Item ready

pub all-read : (d : InnerDecoding) → unread (after_read d) ≡ None
all-read d = go d.has_phase d.chosen
  where
    go : (has : Bool) (chosen : Option Chosen) → (if has || is_some chosen then None else chosen) ≡ None
    go true chosen = refl
    go false None = refl
    go false (Some chosen) = refl

was-read : (has : Bool) (chosen : Option Chosen) → (has || is_some chosen) ≡ true → chosen ≡ None → has ≡ true
was-read true chosen some none = refl
was-read false None some none = some
was-read false (Some chosen) some none = absurd cc

not-chosen : (has : Bool) (chosen : Option Chosen) → (has || is_some chosen) ≡ false → chosen ≡ None
not-chosen true chosen none = absurd cc
not-chosen false None none = refl
not-chosen false (Some chosen) none = absurd cc

read-are : (has : Bool) (before now : Option Chosen) (items ready : List WindowBlock)
    (done : List (Handed WindowBlock)) → (has ≡ true → before ≡ now) → (has ≡ false → (items ≡ []) ⊎ (now ≡ None))
    → done ≡ with_phase (if has then before else None) items
    → done ++ (with_phase (if has then None else now) [] ++ map Item ready)
    ≡ with_phase (if has || is_some now then now else None) (items ++ ready)
read-are true before now items ready done same first are =
    further now done items ready (are ∙ ap (λ (o : Option Chosen). with_phase o items) (same refl))
read-are false before None items ready done same first are = further None done items ready are
read-are false before (Some chosen) items ready done same first are =
    elim (first refl) as (λ _. done ++ (Phase chosen.skip chosen.cost ∷ map Item ready)
    ≡ Phase chosen.skip chosen.cost ∷ map Item (items ++ ready)) [
      | inl nothing ↦ ap (λ l. l ++ (Phase chosen.skip chosen.cost ∷ map Item ready))
          (are ∙ ap (map Item) nothing)
          ∙ ap (λ (l : List WindowBlock). Phase chosen.skip chosen.cost ∷ map Item (l ++ ready)) (sym nothing)
      | inr none ↦ absurd cc
    ]

pub read-run : (d now : InnerDecoding) (given : List ℕ) (done : List (Handed WindowBlock))
    (ready : List WindowBlock) → now.config ≡ d.config → now.has_phase ≡ d.has_phase → Stays d now
    → (r : HasRead d given done) → InnerDecoderStandsFor now given (r.blocks ++ ready)
    → HasRead (after_read now) given (done ++ read_of now ready)
read-run d now given done ready config phase stays r s =
    let c = now.config in
    let soft = phase_octets c given in
    let blocks = r.blocks ++ ready in
    let chosen = read-chosen d now given given done blocks config stays r s in
    let same : c.phase ≡ d.config.phase = ap (λ (c : Configuration). c.phase) config in record {
      blocks = blocks;
      stands = record { of = s.of; same = s.same; count = s.count; few = s.few; decodes = s.decodes; lost = s.lost; choice = s.choice };
      read = λ has none. let was = sym phase ∙ was-read now.has_phase now.chosen has none in
          same ∙ r.read was (chosen was ∙ none);
      after = λ none. elim s.choice as (λ _. (blocks ≡ []) ⊎ (c.phase ≡ Given)) [
        | inl waits ↦ inl waits.1
        | inr is ↦ inr (subst (IsChosenBy c soft) (not-chosen now.has_phase now.chosen none) is)
      ];
      are = read-are now.has_phase d.chosen now.chosen r.blocks ready done (λ has. chosen (sym phase ∙ has))
          (λ none. elim (r.after (sym phase ∙ none)) as (λ _. (r.blocks ≡ []) ⊎ (now.chosen ≡ None)) [
            | inl nothing ↦ inl nothing
            | inr given ↦ inr (given-none c soft now.chosen blocks now.has_ended (same ∙ given) s.choice)
          ])
          (r.are ∙ ap (λ (b : Bool). with_phase (if b then d.chosen else None) r.blocks) (sym phase));
    }

-- ---- what was read, where all of it was

all-are : (has : Bool) (chosen : Option Chosen) → (if has then None else chosen) ≡ None
    → (if has then chosen else None) ≡ chosen
all-are true chosen all = refl
all-are false chosen all = sym all

pub read-all : (d : InnerDecoding) (given : List ℕ) (done : List (Handed WindowBlock)) (r : HasRead d given done)
    → unread d ≡ None → done ≡ with_phase d.chosen r.blocks
read-all d given done r all = r.are ∙ ap (λ (o : Option Chosen). with_phase o r.blocks) (all-are d.has_phase d.chosen all)

-- all that is due
pub handed-due : (d : InnerDecoding) (given : List ℕ) (done : List (Handed WindowBlock)) → HasHanded d given done
    → AreHandedDue d.config given done
handed-due d given done h =
    let c = d.config in
    let r = h.read in
    let are = read-all d given done r h.all in
    let due : IsChosen c given d.chosen → AreHandedDue c given done = λ choice. inr (
      settled-chosen c (phase_octets c given) d.chosen h.so_far choice,
      record {
        chosen = d.chosen;
        choice = choice;
        items = r.blocks;
        are_items = stands-due d given r.blocks r.stands h.drained choice;
        are = are;
      },
    ) in
    elim r.stands.choice as (λ _. AreHandedDue c given done) [
      | inl waits ↦ elim (given_or_find c.phase) as (λ _. AreHandedDue c given done) [
        | inl given_phase ↦ due (subst (IsChosen c given) (sym waits.0) given_phase)
        | inr find ↦ inl (
          λ settled. never_both c.phase (subst (IsChosenSoFar c given) waits.0 h.so_far settled) find,
          are ∙ ap (λ (o : Option Chosen). with_phase o r.blocks) waits.0 ∙ ap (map Item) waits.1,
        )
      ]
      | inr is ↦ due is
    ]

-- the first of it, once the phase is chosen
pub read-first : (d : InnerDecoding) (given : List ℕ) (done : List (Handed WindowBlock)) (r : HasRead d given done)
    → unread d ≡ None → IsChosen d.config given d.chosen
    → WithPhase (λ phase. AreInnerFirst d.config phase given) d.config given done
read-first d given done r all choice = record {
  chosen = d.chosen;
  choice = choice;
  items = r.blocks;
  are_items = stands-first d given r.blocks r.stands;
  are = read-all d given done r all;
}

-- where something was read, it is chosen
pub some-chosen : (d : InnerDecoding) (given : List ℕ) (done : List (Handed WindowBlock)) (r : HasRead d given done)
    → unread d ≡ None → (done ≡ [] → ⊥) → IsChosen d.config given d.chosen
some-chosen d given done r all some = elim r.stands.choice as (λ _. IsChosen d.config given d.chosen) [
  | inl waits ↦ absurd (some (read-all d given done r all
      ∙ ap (λ (o : Option Chosen). with_phase o r.blocks) waits.0 ∙ ap (map Item) waits.1))
  | inr is ↦ is
]

-- the phase that is kept
pub is-kept : (d : InnerDecoding) (given : List ℕ) (blocks : List WindowBlock) → InnerDecoderStandsFor d given blocks
    → (d.has_ended ≡ false → IsChosenSoFar d.config given d.chosen) → IsKept d given
is-kept d given blocks s so_far = record {
  so_far = so_far;
  at_end = λ ended. elim s.choice as (λ _. IsChosen d.config given d.chosen) [
    | inl waits ↦ absurd (let both : true ≡ false = sym ended ∙ waits.2 in cc)
    | inr is ↦ is
  ];
}
