-- The transfer frames of a stream of octets: one after the other, each of `size` octets.
use Rattle.std.specs.Prelude.{◌≡◌, ℕ, zero, suc, ◌*◌, ◌/◌, ◌<◌, List, [], ◌∷◌, ◌++◌, length, take, drop}
use Rattle.std.specs.List.{AllByRecursion, concat}

-- the first `count` frames
abbrev pub first_frames : ℕ → ℕ → List ℕ → List (List ℕ)
first_frames size zero octets = []
first_frames size (suc count) octets = take size octets ∷ first_frames size count (drop size octets)

-- the whole frames
unfoldable pub whole_frames : ℕ → List ℕ → List (List ℕ)
whole_frames size octets = first_frames size (length octets / size) octets

-- the octets after the last whole frame
abbrev pub after_frames : ℕ → List ℕ → List ℕ
after_frames size octets = drop (length octets / size * size) octets

-- each list has `size` octets
abbrev pub HaveSize : ℕ → List (List ℕ) → Type 0
HaveSize size = AllByRecursion (λ frame. length frame ≡ size)

-- the octets are these frames, and then less than a whole one
pub record Splits (size : ℕ) (octets : List ℕ) (frames : List (List ℕ))
    (held : List ℕ) : Type 0 where
  pub whole : octets ≡ concat frames ++ held
  pub sized : HaveSize size frames
  pub partial : length held < size
