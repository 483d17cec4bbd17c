-- How many bits and items come of received octets at most, whatever was received before.
use Rattle.std.specs.Prelude.{ℕ, ◌+◌, ◌-◌, ◌*◌, ◌/◌, ◌≤◌, List, length, Option, Some, None}
use Rattle.tm_base.specs.Marker.{marker_size}
use Rattle.tm_config.specs.Configuration.{Configuration}
use Rattle.tm_conv.specs.declared.rates.Rate.{Rate}
use Rattle.tm_inner.specs.Inner.{plain_count}
use Rattle.tm_inner.specs.Phase.{held_bits}
use Rattle.tm_sync.specs.declared.found.Columns.{Columns}
use Rattle.tm_sync.specs.Rescan.{reach}
use Rattle.tm_codeblock.specs.ReceivedCodeblock.{rules_of, columns_of}
use Rattle.tm_channel.specs.Items.{ItemValue, frames_of}
use Rattle.tm_channel.specs.Receiving.{waiting_bits}

-- how many bits come of `octets` octets, or of none at the end: those of the buffered blocks, of
-- the octets buffered until the phase is chosen, of a window and of these octets; with no inner
-- code those that the octets hold
abbrev pub most_bits_at : Option Rate → Configuration → ℕ → ℕ
most_bits_at None c octets = plain_count c octets
most_bits_at (Some rate) c octets = waiting_bits c c.batch + held_bits c + octets

abbrev pub most_bits : Configuration → ℕ → ℕ
most_bits c = most_bits_at c.inner c

-- how many codeblocks come with `bits` bits, but for the one under way: as many as there is room
-- for, and those that the bits verify; where codeblocks are looked for inside others two may lie
-- nearly in the room of one
abbrev pub most_found_at : Option Columns → ℕ → ℕ → ℕ → ℕ
most_found_at None unit verify bits = bits / unit + verify
most_found_at (Some columns) unit verify bits =
    2 * ((bits + verify * unit) / (unit - reach columns + 1) + 1)

abbrev pub most_found : Configuration → ℕ → ℕ
most_found c = most_found_at (columns_of c) (marker_size + (rules_of c).block_bits) c.verify

-- how many items are handed over with `octets` octets, or at the end: as many as there are
-- codeblocks in the bits that come of them, that of the codeblock under way, and those buffered
-- until their batch is full
abbrev pub most_items : Configuration → ℕ → ℕ
most_items c octets = most_found c (most_bits c octets) + c.batch

-- these are no more items than that, and their frames have no more octets than as many frames
abbrev pub AreFew : Configuration → ℕ → List ItemValue → Type 0
AreFew c octets items = (length items ≤ most_items c octets)
    × (length (frames_of items) ≤ most_items c octets * c.frame_length)
