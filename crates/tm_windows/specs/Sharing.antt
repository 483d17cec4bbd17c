-- How many windows workers have at a time.
use Rattle.std.specs.Prelude.{ℕ, ◌^◌}

-- the most steps of all windows that workers have at a time, which is a bound of memory
abbrev pub most_window_steps : ℕ
most_window_steps = 2 ^ 26

-- the most windows that workers have at a time
abbrev pub most_windows : ℕ
most_windows = 2 ^ 20

-- the most octets that windows are decoded from at a time
abbrev pub most_octets : ℕ
most_octets = 2 ^ 62

-- there is room for no more windows than this
abbrev pub most_candidates : ℕ
most_candidates = 2 ^ 32

-- the least steps ahead with which windows are shared out: with fewer a start is guessed wrong too
-- often
abbrev pub least_shared_ahead : ℕ
least_shared_ahead = 64

-- the steps up to which a worker has windows at a time: enough that making a thread costs little
abbrev pub worker_steps : ℕ
worker_steps = 2 ^ 20
