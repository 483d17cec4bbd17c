-- Limits that crates share which do not stand on each other.
use Rattle.std.specs.Prelude.{ℕ, ◌^◌}

-- the most workers that share the work of a call
abbrev pub most_workers : ℕ
most_workers = 64

-- the most octets that are read
abbrev pub most_limit : ℕ
most_limit = 2 ^ 40
