-- The symbols of whole octets.
use Rattle.std.specs.Prelude.{◌≡◌, ℕ, ◌<◌, ◌≤◌, Bool, List, [], ◌∷◌, length, slice_index, map, take, All}
use Rattle.tm_conv.specs.declared.rates.Rate.{Rate}
use Rattle.tm_conv.specs.declared.rates.Rate.TheVariants.{R12}
use Rattle.tm_conv.specs.Path.{path}

-- the most symbols that an octet of bits sends
abbrev pub most_octet_symbols : ℕ
most_octet_symbols = 16

-- the elements of a list at these places
abbrev pub elements_at : List ℕ → List ℕ → List ℕ
elements_at places elements = map (λ place. slice_index elements place) places

-- of the sixteen symbols that eight bits have at rate 1/2, those at the first `count` of these
-- places are sent where the first bit is step t
pub record AreKept (rate : Rate) (t : ℕ) (places : List ℕ) (count : ℕ) : Type 0 where
  pub long : length places ≡ 16
  pub small : All (λ place. place < 16) places
  pub at_most : count ≤ most_octet_symbols
  pub kept : (f : ℕ → ℕ) (invert : Bool) (register a b c d e g h i : ℕ)
      → take count (elements_at places (map f
      (path R12 invert 0 register (a ∷ b ∷ c ∷ d ∷ e ∷ g ∷ h ∷ i ∷ []))))
      ≡ map f (path rate invert t register (a ∷ b ∷ c ∷ d ∷ e ∷ g ∷ h ∷ i ∷ []))
