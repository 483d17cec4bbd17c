-- Numbers of calls and of faults, which stop at the last value of their type.
use Rattle.std.specs.Prelude.{ℕ, ◌+◌, ◌-◌, ◌^◌, ◌==◌, Bool, min, List}
use Rattle.std.specs.List.{list_any}

-- the last count
abbrev pub last_count : ℕ
last_count = 2 ^ 64 - 1

-- a count raised by a number
abbrev pub raised_by : ℕ → ℕ → ℕ
raised_by number count = min (count + number) last_count

-- the call of this number is among those that are to fail
abbrev pub is_failing : List ℕ → ℕ → Bool
is_failing fails call = list_any (λ number. number == call) fails
