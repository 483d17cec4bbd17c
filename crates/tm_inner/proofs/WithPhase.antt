-- What is handed over for received octets, the phase first and then items, is one list, which there
-- is, and it goes on as octets come.
use Rattle.std.proofs.Common.{◌≡◌, inl, inr, ℕ, ◌+◌, ◌-◌, Bool, List, ◌++◌, length, drop, map, refl, sym, ap, ◌∙◌, subst, min, Option, Some, None}
use Rattle.tm_base.specs.Handed.{Handed, Item}
use Rattle.tm_base.specs.SoftForm.{from_form}
use Rattle.tm_config.specs.Configuration.{Configuration, is_signed}
use Rattle.tm_config.proofs.Choices.{given_or_find, never_both}
use Rattle.tm_conv.specs.declared.rates.Rate.{Rate}
use Rattle.tm_windows.specs.declared.choosing.Chosen.{Chosen}
use Rattle.tm_windows.specs.Phase.{IsPhase}
use Rattle.tm_inner.specs.Symbols.{is_inverted}
use Rattle.tm_inner.specs.Phase.{PhaseAt, IsChosen, IsChosenBy, IsChosenSoFar, IsSettled, IsSettledBy, phase_octets, skip_of, skipped_at, with_phase, WithPhase, WithPhaseSettled, WithPhaseSoFar}
use Rattle.tm_inner.proofs.GivenPieces.{phase_octets-more}
use Rattle.tm_inner.proofs.PhasePieces.{PhaseStays, choice-more, settled-more, with_phase-more}

-- octets have a phase, and no other one
abbrev pub HasPhase : Type 0
HasPhase =
    (rate : Rate) (invert : Bool) (window : ℕ) (octets : List ℕ) → (chosen : Chosen)
    × IsPhase rate invert window octets chosen

abbrev pub OnePhase : Type 0
OnePhase = (rate : Rate) (invert : Bool) (window : ℕ) (octets : List ℕ) (chosen other : Chosen)
    → IsPhase rate invert window octets chosen → IsPhase rate invert window octets other → chosen ≡ other

-- ---- the choice

has-phase : HasPhase → (rate : Option Rate) (c : Configuration) (soft : List ℕ) → (chosen : Chosen)
    × PhaseAt rate c soft chosen
has-phase has None c soft = (record { skip = 0; cost = 0 }, (refl, refl))
has-phase has (Some rate) c soft = has rate (is_inverted rate c.invert) (c.keep + c.ahead) soft

one-phase : OnePhase → (rate : Option Rate) (c : Configuration) (soft : List ℕ) (a b : Chosen) → PhaseAt rate c soft a
    → PhaseAt rate c soft b → a ≡ b
one-phase one None c soft a b p q = same a.skip b.skip a.cost b.cost (p.0 ∙ sym q.0) (p.1 ∙ sym q.1)
  where
    same : (s t k l : ℕ) → s ≡ t → k ≡ l → ◌≡◌ {A = Chosen} (record { skip = s; cost = k })
        (record { skip = t; cost = l })
    same s t k l skip cost =
        ap (λ (n : ℕ). record { skip = n; cost = k }) skip ∙ ap (λ (n : ℕ). record { skip = t; cost = n }) cost
one-phase one (Some rate) c soft a b p q = one rate (is_inverted rate c.invert) (c.keep + c.ahead) soft a b p q

has-choice : HasPhase → (c : Configuration) (octets : List ℕ) → (chosen : Option Chosen) × IsChosen c octets chosen
has-choice has c octets = elim (given_or_find c.phase) as (λ _. (chosen : Option Chosen) × IsChosen c octets chosen) [
  | inl given ↦ (None, given)
  | inr find ↦ (let p = has-phase has c.inner c (phase_octets c octets) in (Some p.0, (find, p.1)))
]

pub one-choice : OnePhase → (c : Configuration) (octets : List ℕ) (a b : Option Chosen) → IsChosen c octets a
    → IsChosen c octets b → a ≡ b
one-choice one c octets None None p q = refl
one-choice one c octets None (Some b) p q = absurd (never_both c.phase p q.0)
one-choice one c octets (Some a) None p q = absurd (never_both c.phase q p.0)
one-choice one c octets (Some a) (Some b) p q =
    ap (λ (x : Chosen). Some x) (one-phase one c.inner c (phase_octets c octets) a b p.1 q.1)

-- whatever octets come, the choice stays once it is settled
pub choice-stays : PhaseStays → (c : Configuration) (octets more : List ℕ) (chosen : Option Chosen)
    → IsSettled c octets → IsChosen c octets chosen → IsChosen c (octets ++ more) chosen
choice-stays stays c octets more chosen settled is =
    let skipped = min (skipped_at c.inner c - length octets) (length more) in
    subst (λ (l : List ℕ). IsChosenBy c l chosen) (sym (phase_octets-more c octets more skipped refl))
    (choice-more stays c (phase_octets c octets) (from_form (is_signed c.soft) (drop skipped more)) chosen settled is)

pub settled-stays : (c : Configuration) (octets more : List ℕ) → IsSettled c octets → IsSettled c (octets ++ more)
settled-stays c octets more settled =
    let skipped = min (skipped_at c.inner c - length octets) (length more) in
    subst (λ (l : List ℕ). IsSettledBy c l) (sym (phase_octets-more c octets more skipped refl))
    (settled-more c (phase_octets c octets) (from_form (is_signed c.soft) (drop skipped more)) settled)

pub so_far-stays : PhaseStays → (c : Configuration) (octets more : List ℕ) (chosen : Option Chosen)
    → IsSettled c octets → IsChosenSoFar c octets chosen
    → IsChosenSoFar c (octets ++ more) chosen
so_far-stays stays c octets more None settled is = λ _. is settled
so_far-stays stays c octets more (Some chosen) settled is =
    (settled-stays c octets more settled, choice-stays stays c octets more (Some chosen) settled is.1)

-- ---- what is handed over

pub with_phase-exists : {I : Type 0} (AreItems : ℕ → List I → Type 0) → HasPhase
    → (c : Configuration) (octets : List ℕ) → ((phase : ℕ) → (items : List I) × AreItems phase items)
    → (handed : List (Handed I)) × WithPhase AreItems c octets handed
with_phase-exists AreItems has c octets each =
    let choice = has-choice has c octets in
    let items = each (skip_of choice.0) in (
      with_phase choice.0 items.0,
      record {
        chosen = choice.0;
        choice = choice.1;
        items = items.0;
        are_items = items.1;
        are = refl;
      },
    )

-- items of one phase, of which the one list goes on from the other
abbrev pub GoOn : {I : Type 0} → (ℕ → List I → Type 0) → (ℕ → List I → Type 0) → Type 0
GoOn {I} AreFirst AreItems =
    (phase : ℕ) (first items : List I) → AreFirst phase first → AreItems phase items → (rest : List I)
    × (items ≡ first ++ rest)

go-on : {I : Type 0} (AreFirst AreItems : ℕ → List I → Type 0) (a b : Option Chosen) (first items : List I)
    → GoOn AreFirst AreItems → a ≡ b → AreFirst (skip_of a) first → AreItems (skip_of b) items
    → (rest : List (Handed I)) × (with_phase b items ≡ with_phase a first ++ rest)
go-on AreFirst AreItems a b first items each same p q =
    let r = each (skip_of b) first items (subst (λ (o : Option Chosen). AreFirst (skip_of o) first) same p) q in (
      map Item r.0,
      ap (with_phase b) r.1 ∙ with_phase-more b first r.0
          ∙ ap (λ (o : Option Chosen). with_phase o first ++ map Item r.0) (sym same),
    )

along : {I : Type 0} (all first start whole : List (Handed I)) → all ≡ whole → first ≡ start
    → (rest : List (Handed I)) × (whole ≡ start ++ rest) → (rest : List (Handed I)) × (all ≡ first ++ rest)
along all first start whole a f r = (r.0, a ∙ r.1 ∙ ap (λ l. l ++ r.0) (sym f))

-- the first of what is handed over, where no octets come after
pub with_phase-prefix : {I : Type 0} (AreFirst AreItems : ℕ → List I → Type 0) → OnePhase
    → (c : Configuration) (octets : List ℕ) (first all : List (Handed I)) → GoOn AreFirst AreItems
    → WithPhase AreFirst c octets first → WithPhase AreItems c octets all → (rest : List (Handed I))
    × (all ≡ first ++ rest)
with_phase-prefix AreFirst AreItems one c octets first all each p q =
    along all first (with_phase p.chosen p.items) (with_phase q.chosen q.items) q.are p.are
    (go-on AreFirst AreItems p.chosen q.chosen p.items q.items each
    (one-choice one c octets p.chosen q.chosen p.choice q.choice) p.are_items q.are_items)

-- the first of it, whatever octets follow
pub with_phase-settled : {I : Type 0} (AreFirst AreItems : ℕ → List I → Type 0) → PhaseStays → OnePhase
    → (c : Configuration) (octets more : List ℕ) (first all : List (Handed I)) → GoOn AreFirst AreItems
    → WithPhaseSettled AreFirst c octets first → WithPhase AreItems c (octets ++ more) all → (rest : List (Handed I))
    × (all ≡ first ++ rest)
with_phase-settled AreFirst AreItems stays one c octets more first all each p q =
    let choice = choice-stays stays c octets more p.1.chosen p.0 p.1.choice in
    along all first (with_phase p.1.chosen p.1.items) (with_phase q.chosen q.items) q.are p.1.are
    (go-on AreFirst AreItems p.1.chosen q.chosen p.1.items q.items each
    (one-choice one c (octets ++ more) p.1.chosen q.chosen choice q.choice) p.1.are_items q.are_items)

-- what is due, whatever octets follow
pub with_phase-so_far : {I : Type 0} (AreFirst AreItems : ℕ → List I → Type 0) → PhaseStays → OnePhase
    → (c : Configuration) (octets more : List ℕ) (first all : List (Handed I)) → GoOn AreFirst AreItems
    → WithPhaseSoFar AreFirst c octets first → WithPhase AreItems c (octets ++ more) all → (rest : List (Handed I))
    × (all ≡ first ++ rest)
with_phase-so_far AreFirst AreItems stays one c octets more first all each (inl none) q =
    (all, ap (λ l. l ++ all) (sym none.1))
with_phase-so_far AreFirst AreItems stays one c octets more first all each (inr settled) q =
    with_phase-settled AreFirst AreItems stays one c octets more first all each settled q

-- all that is handed over is one list
pub with_phase-one : {I : Type 0} (AreItems : ℕ → List I → Type 0) → OnePhase
    → (c : Configuration) (octets : List ℕ) (handed others : List (Handed I))
    → ((phase : ℕ) (items others : List I) → AreItems phase items → AreItems phase others → items ≡ others)
    → WithPhase AreItems c octets handed → WithPhase AreItems c octets others → handed ≡ others
with_phase-one AreItems one c octets handed others each p q =
    let same = one-choice one c octets p.chosen q.chosen p.choice q.choice in
    p.are ∙ ap (λ (o : Option Chosen). with_phase o p.items) same
    ∙ ap (with_phase q.chosen) (each (skip_of q.chosen) p.items q.items
    (subst (λ (o : Option Chosen). AreItems (skip_of o) p.items) same p.are_items) q.are_items) ∙ sym q.are
