-- The symbol phase: how many soft octets stand before the first step's symbols (CCSDS 131.0-B,
-- Convolutional Coding).
use Rattle.std.specs.Prelude.{◌≡◌, ℕ, zero, suc, ◌+◌, ◌-◌, ◌<◌, ◌≤◌, Bool, None, List, take, drop, min}
use Rattle.tm_conv.specs.declared.rates.Rate.{Rate}
use Rattle.tm_conv.specs.Path.{path, period, steps_size}
use Rattle.tm_conv.specs.Cost.{cost}
use Rattle.tm_conv.specs.Best.{IsBest}
use Rattle.tm_viterbi.specs.Starts.{starts_from}
use Rattle.tm_viterbi.specs.Blocks.{AreSteps}
use Rattle.tm_windows.specs.declared.choosing.Chosen.{Chosen}

-- how many symbols a period of steps sends; the candidates are the numbers below it
abbrev pub period_size : Rate → ℕ
period_size rate = steps_size rate 0 (period rate)

-- the most symbols that a period sends
abbrev pub most_period_size : ℕ
most_period_size = 8

-- how many steps are compared: as many as are whole after every candidate, and at most `window`
pub record AreCompared (rate : Rate) (window : ℕ) (octets : List ℕ) (steps : ℕ) : Type 0 where
  pub most : ℕ
  pub whole : AreSteps rate 0 (drop (period_size rate - 1) octets) most
  pub lesser : steps ≡ min window most

-- with how many octets, or more, the whole window is compared
abbrev pub octets_needed : Rate → ℕ → ℕ
octets_needed rate window = steps_size rate 0 window + (period_size rate - 1)

-- the octets of `steps` steps from step t on, where octet `skip` is the first of them
abbrev pub octets_at : Rate → ℕ → ℕ → List ℕ → ℕ → List ℕ
octets_at rate t steps octets skip = take (steps_size rate t steps) (drop skip octets)

-- the best path over them, from any of the 64 registers, costs this
pub record IsCostAt (rate : Rate) (invert : Bool) (t steps : ℕ) (octets : List ℕ)
    (skip amount : ℕ) : Type 0 where
  pub initial : ℕ
  pub bits : List ℕ
  pub best : IsBest (starts_from None) rate invert t
      (octets_at rate t steps octets skip) initial bits
  pub is : amount ≡ cost (path rate invert t initial bits) (octets_at rate t steps octets skip)

-- the first of least cost of the numbers below `count`: none of them costs less, and none before it
-- as little
pub record IsFirstLeast (IsCost : ℕ → ℕ → Type 0) (count number amount : ℕ) : Type 0 where
  pub below : number < count
  pub is : IsCost number amount
  pub least : (other more : ℕ) → other < count → IsCost other more → amount ≤ more
  pub first : (other more : ℕ) → other < number → IsCost other more → amount < more

-- costs as they are after 0, which has this one
abbrev pub IsCostAfter : ℕ → (ℕ → ℕ → Type 0) → ℕ → ℕ → Type 0
IsCostAfter first IsCost zero amount = amount ≡ first
IsCostAfter first IsCost (suc number) amount = IsCost (suc number) amount

-- the phase and its cost: the first candidate of least cost
pub record IsPhase (rate : Rate) (invert : Bool) (window : ℕ) (octets : List ℕ)
    (chosen : Chosen) : Type 0 where
  pub steps : ℕ
  pub compared : AreCompared rate window octets steps
  pub least : IsFirstLeast (IsCostAt rate invert 0 steps octets)
      (period_size rate) chosen.skip chosen.cost
