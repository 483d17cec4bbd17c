-- What was written to a sink, and what a source gave, where they say which.
use Rattle.std.specs.Prelude.{◌≡◌, ℕ, List, take, Option}
use Rattle.std.specs.Io.KnownBytes.{append_known, prepend_known}

-- the whole of a text was taken
abbrev pub Wrote : Option (List ℕ) → Option (List ℕ) → List ℕ → Type 0
Wrote before now text = now ≡ append_known before text

-- a prefix of a text was taken
abbrev pub WrotePrefix : Option (List ℕ) → Option (List ℕ) → List ℕ → Type 0
WrotePrefix before now text = (count : ℕ) × Wrote before now (take count text)

-- a source gave these octets
pub record Gave (before now left rest : Option (List ℕ)) (octets : List ℕ) : Type 0 where
  pub given : now ≡ append_known before octets
  pub consumed : left ≡ prepend_known octets rest
