-- The path metrics after a step from those before it.
use Rattle.std.specs.Prelude.{ℕ, ◌≡◌, ◌+◌, ◌*◌, ◌/◌, ◌%◌, ◌^◌, ◌<◌, List, min, length, slice_index, nat_lt, if◌then◌else◌}
use Rattle.tm_conv.specs.Path.{c1, c2, registers}

-- the path metric of a path that comes to register p and goes on by bit b
abbrev pub sum_via : List ℕ → List ℕ → ℕ → ℕ → ℕ
sum_via sums metrics p b = slice_index sums p + slice_index metrics (2 * c1 p b + c2 p b)

-- the path metrics by the two branches into register s
abbrev pub first_metric : List ℕ → List ℕ → ℕ → ℕ
first_metric sums metrics s = sum_via sums metrics (2 * (s % 32)) (s / 32)

abbrev pub second_metric : List ℕ → List ℕ → ℕ → ℕ
second_metric sums metrics s = sum_via sums metrics (2 * (s % 32) + 1) (s / 32)

-- the lesser of the two at each register
abbrev pub IsNextSums : List ℕ → List ℕ → List ℕ → Type 0
IsNextSums sums metrics next = (s : ℕ) → s < registers
    → slice_index next s ≡ min (first_metric sums metrics s) (second_metric sums metrics s)

-- bit s is 1 exactly where the second is strictly less
abbrev pub AreSurvivors : List ℕ → List ℕ → ℕ → Type 0
AreSurvivors sums metrics bits =
    (s : ℕ) → s < registers
    → bits / 2 ^ s % 2
    ≡ (if nat_lt (second_metric sums metrics s) (first_metric sums metrics s) then 1 else 0)

-- 32 lanes, and what each is
pub record IsEach (lanes : List ℕ) (value : ℕ → ℕ) : Type 0 where
  pub long : length lanes ≡ 32
  pub each : (i : ℕ) → i < 32 → slice_index lanes i ≡ value i

-- 16 lanes, and what each is
pub record IsHalf (lanes : List ℕ) (value : ℕ → ℕ) : Type 0 where
  pub long : length lanes ≡ 16
  pub each : (i : ℕ) → i < 16 → slice_index lanes i ≡ value i

-- places that bring, in each eight lanes, those at even places first
abbrev pub AreSortedPlaces : List ℕ → Type 0
AreSortedPlaces places = IsEach places (λ i. 2 * (i % 4) + i % 8 / 4)
