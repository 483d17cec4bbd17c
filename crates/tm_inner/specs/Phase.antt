-- The symbol phase of received octets (CCSDS 131.0-B, Convolutional Coding).
use Rattle.std.specs.Prelude.{◌≡◌, ◌⊎◌, ℕ, ◌+◌, ◌*◌, ◌≤◌, List, [], ◌∷◌, length, map, drop, Option, Some, None}
use Rattle.tm_base.specs.Handed.{Handed, Phase, Item}
use Rattle.tm_config.specs.Configuration.{Configuration}
use Rattle.tm_config.specs.declared.values.Sought.TheVariants.{Given, Find}
use Rattle.tm_conv.specs.declared.rates.Rate.{Rate}
use Rattle.tm_conv.specs.Path.{most_period}
use Rattle.tm_windows.specs.declared.choosing.Chosen.{Chosen}
use Rattle.tm_windows.specs.Phase.{IsPhase, octets_needed}
use Rattle.tm_inner.specs.Symbols.{is_inverted}
use Rattle.tm_inner.specs.Inner.{soft_value}

-- how many octets are skipped; with no inner code bits are, and no octet
abbrev pub skipped_at : Option Rate → Configuration → ℕ
skipped_at None c = 0
skipped_at (Some rate) c = c.skip

-- the soft octets by which the phase is chosen: all after the skipped ones
abbrev pub phase_octets : Configuration → List ℕ → List ℕ
phase_octets c octets = map (soft_value c) (drop (skipped_at c.inner c) octets)

-- their phase, found in the steps of a window, or with no inner code phase 0 at no cost
abbrev pub PhaseAt : Option Rate → Configuration → List ℕ → Chosen → Type 0
PhaseAt None c soft chosen = (chosen.skip ≡ 0) × (chosen.cost ≡ 0)
PhaseAt (Some rate) c soft chosen = IsPhase rate (is_inverted rate c.invert)
    (c.keep + c.ahead) soft chosen

-- what is chosen by soft octets: nothing where the phase is given
abbrev pub IsChosenBy : Configuration → List ℕ → Option Chosen → Type 0
IsChosenBy c soft None = c.phase ≡ Given
IsChosenBy c soft (Some chosen) = (c.phase ≡ Find) × PhaseAt c.inner c soft chosen

-- with how many of them it is chosen, whatever octets come: once the whole window is compared, or
-- with no inner code at the first
abbrev pub needed_at : Option Rate → Configuration → ℕ
needed_at None c = 1
needed_at (Some rate) c = octets_needed rate (c.keep + c.ahead)

-- how many bits come at most of the octets buffered for the phase and of a window
abbrev pub held_bits : Configuration → ℕ
held_bits c = 3 * (c.keep + c.ahead) + most_period

-- it is chosen, or given
abbrev pub IsSettledBy : Configuration → List ℕ → Type 0
IsSettledBy c soft = (c.phase ≡ Given) ⊎ (needed_at c.inner c ≤ length soft)

-- what is chosen by them whatever octets come: nothing before the choice
abbrev pub IsSoFarBy : Configuration → List ℕ → Option Chosen → Type 0
IsSoFarBy c soft None = IsSettledBy c soft → c.phase ≡ Given
IsSoFarBy c soft (Some chosen) = IsSettledBy c soft × IsChosenBy c soft (Some chosen)

-- the same of received octets
abbrev pub IsChosen : Configuration → List ℕ → Option Chosen → Type 0
IsChosen c octets = IsChosenBy c (phase_octets c octets)

abbrev pub IsSettled : Configuration → List ℕ → Type 0
IsSettled c octets = IsSettledBy c (phase_octets c octets)

abbrev pub IsChosenSoFar : Configuration → List ℕ → Option Chosen → Type 0
IsChosenSoFar c octets = IsSoFarBy c (phase_octets c octets)

-- how many octets stand before the first step's symbols
abbrev pub skip_of : Option Chosen → ℕ
skip_of None = 0
skip_of (Some chosen) = chosen.skip

-- the phase that was chosen, and then items
abbrev pub with_phase : {I : Type 0} → Option Chosen → List I → List (Handed I)
with_phase None items = map Item items
with_phase (Some chosen) items = Phase chosen.skip chosen.cost ∷ map Item items

-- what is handed over for received octets: their phase, where it is to be found, and then items,
-- which hang on the phase
pub record WithPhase {I : Type 0} (AreItems : ℕ → List I → Type 0) (c : Configuration)
    (octets : List ℕ) (handed : List (Handed I)) : Type 0 where
  pub chosen : Option Chosen
  pub choice : IsChosen c octets chosen
  pub items : List I
  pub are_items : AreItems (skip_of chosen) items
  pub are : handed ≡ with_phase chosen items

-- the same of what is due whatever octets come: nothing before the phase is settled
abbrev pub WithPhaseSettled : {I : Type 0} → (ℕ → List I → Type 0) → Configuration → List ℕ
    → List (Handed I) → Type 0
WithPhaseSettled AreItems c octets handed = IsSettled c octets × WithPhase AreItems c octets handed

abbrev pub WithPhaseSoFar : {I : Type 0} → (ℕ → List I → Type 0) → Configuration → List ℕ
    → List (Handed I) → Type 0
WithPhaseSoFar AreItems c octets handed = ((IsSettled c octets → ⊥)
    × (handed ≡ [])) ⊎ WithPhaseSettled AreItems c octets handed
