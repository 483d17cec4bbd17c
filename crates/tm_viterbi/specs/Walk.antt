-- Paths with the newest bit first, as the decoder walks them.
use Rattle.std.specs.Prelude.{ℕ, ◌≡◌, ◌+◌, ◌*◌, ◌/◌, ◌%◌, ◌^◌, ◌<◌, ◌≤◌, List, [], ◌∷◌, length, reverse, slice_index}
use Rattle.std.specs.List.{All}
use Rattle.tm_conv.specs.Path.{next_register, register_size, registers}

-- the register after these bits, the newest first
abbrev pub register_back : ℕ → List ℕ → ℕ
register_back r [] = r
register_back r (b ∷ past) = next_register (register_back r past) b

-- the number whose binary digits are the bits, the newest first, and then those of the register
abbrev pub rank : ℕ → List ℕ → ℕ
rank r [] = r
rank r (b ∷ past) = b * 2 ^ (length past + register_size) + rank r past

-- a path of n bits to register s
pub record IsPathTo (n s r : ℕ) (past : List ℕ) : Type 0 where
  pub start : r < registers
  pub each : All (λ b. b < 2) past
  pub long : length past ≡ n
  pub ends : register_back r past ≡ s

-- a sum and a rank against others: less, or as little and of no greater rank
pub record IsNoWorse (sum k other l : ℕ) : Type 0 where
  pub least : sum ≤ other
  pub first : other ≤ sum → k ≤ l

-- the path of least total to register s, and of those the first
pub record IsBestTo (total : ℕ → List ℕ → ℕ) (n s sum r : ℕ) (past : List ℕ) : Type 0 where
  pub is_path : IsPathTo n s r past
  pub is_sum : total r past ≡ sum
  pub best : (q : ℕ) (other : List ℕ) → IsPathTo n s q other
      → IsNoWorse sum (rank r past) (total q other) (rank q other)

-- the register before s, by the survivors of a step
abbrev pub before : ℕ → ℕ → ℕ
before survivor s = 2 * (s % 32) + survivor / 2 ^ s % 2

-- the path that survivors keep for register s, the newest first
abbrev pub past_of : List ℕ → ℕ → List ℕ
past_of [] s = []
past_of (c ∷ survivors) s = (s / 32) ∷ past_of survivors (before c s)

abbrev pub start_of : List ℕ → ℕ → ℕ
start_of [] s = s
start_of (c ∷ survivors) s = start_of survivors (before c s)

-- the number whose low six bits are a register, after steps back through survivors, the newest
-- first: each puts the survivor bit after it
abbrev pub history : List ℕ → ℕ → ℕ
history [] h = h
history (c ∷ survivors) h = history survivors (2 * h + c / 2 ^ (h % registers) % 2)

-- there is a bit for the survivors of each step, and the path ends at this register
pub record CanTrace (survivors bits : List ℕ) (last : ℕ) : Type 0 where
  pub size : length bits ≡ length survivors
  pub register : last < registers

-- the bits, the oldest first, and the first register of the path that the survivors keep for the
-- last
pub record IsTraced (survivors : List ℕ) (last : ℕ) (traced : List ℕ) (first : ℕ) : Type 0 where
  pub bits : traced ≡ reverse (past_of (reverse survivors) last)
  pub start : first ≡ start_of (reverse survivors) last
  pub small : first < registers

-- the path metrics and the survivors have the best path to each register
abbrev pub AreBest : (ℕ → List ℕ → ℕ) → ℕ → List ℕ → List ℕ → Type 0
AreBest total n sums survivors = (s : ℕ) → s < registers
    → IsBestTo total n s (slice_index sums s) (start_of survivors s) (past_of survivors s)
