-- Windows of the soft decoder that are written to an array.
use Rattle.std.specs.Prelude.{◌≡◌, ℕ, ◌+◌, ◌/◌, ◌<◌, ◌≤◌, nat_le, if◌then◌else◌, List, length, take, Option, Some, None}
use Rattle.std.specs.Option.{is_some}
use Rattle.tm_config.specs.Configuration.{Configuration}
use Rattle.tm_inner.specs.Phase.{held_bits}
use Rattle.tm_inner.specs.declared.window.Window.{Window}
use Rattle.tm_buffers.specs.Buffer.{IsAll, most_taken, over}
use Rattle.tm_buffers.specs.declared.windows.BufferWindows.{BufferWindows}

-- how many windows come with this many more octets at most, or at the end: each but the last keeps
-- as many of the bits for which there has to be room as the configuration says
abbrev pub most_windows : Configuration → ℕ → ℕ
most_windows c octets = if is_some c.inner then (held_bits c + octets) / c.keep + 1 else 0

-- for how many there has to be room; no more than 2^40 octets are given at a time
abbrev pub windows_room : Configuration → ℕ → Option ℕ
windows_room c octets = if nat_le octets most_taken then Some (most_windows c octets) else None

-- Of these windows the first `count` ones were written: they and no others stand at the start of an
-- array, which is as it was behind them. They are all, or it is full.
pub record HasWrittenWindows (windows array array_now : List Window) (count : ℕ) : Type 0 where
  pub within : count ≤ length windows
  pub hold : array_now ≡ over (take count windows) array
  pub full : count < length windows → count ≡ length array

-- So stand they in an array that was lent by this name, and it is known whether these are all.
pub record HasGathered (lent : ℕ) (array windows : List Window) (b : BufferWindows) : Type 0 where
  pub loan : b.windows.ghost_name ≡ lent
  pub long : length b.windows.now ≡ length array
  pub written : HasWrittenWindows windows array b.windows.now b.count
  pub is_all : IsAll b.is_short b.count (length windows)
