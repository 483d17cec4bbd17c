-- The sizes of windows, and how far the streams go that are cut into them.
use Rattle.std.specs.Prelude.{ℕ, ◌+◌, ◌^◌}

-- the steps of a window that are kept
abbrev pub least_keep : ℕ
least_keep = 64

abbrev pub most_keep : ℕ
most_keep = 65536

-- the most steps of a window beyond those that are kept
abbrev pub most_ahead : ℕ
most_ahead = 4096

-- the most steps of a window
abbrev pub most_window : ℕ
most_window = most_keep + most_ahead

-- a stream has fewer octets than this, and so fewer steps
abbrev pub stream_bound : ℕ
stream_bound = 2 ^ 60

-- windows begin before this step, those too that are decoded before it is known whether they close
abbrev pub window_bound : ℕ
window_bound = 2 ^ 61
