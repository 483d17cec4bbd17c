-- What is sent for a stream of octets.
use Rattle.std.specs.Prelude.{ℕ, if◌then◌else◌, List, Option, Some, None, flat_map}
use Rattle.tm_config.specs.Configuration.{Configuration, is_sought}
use Rattle.tm_windows.specs.declared.choosing.Chosen.{Chosen}
use Rattle.tm_inner.specs.Symbols.{symbols_of_octets}
use Rattle.tm_codeblock.specs.Frames.{whole_frames}
use Rattle.tm_codeblock.specs.Cadu.{cadu}

-- the channel access data units of the whole frames, in order
abbrev pub cadus : Configuration → List ℕ → List ℕ
cadus c octets = flat_map (cadu c) (whole_frames c.frame_length octets)

-- the symbols of the bits of these
abbrev pub sent : Configuration → List ℕ → List ℕ
sent c octets = symbols_of_octets c (cadus c octets)

-- Their phase, where it is to be found and they are not disturbed: none of them is skipped, and the
-- path costs nothing. It is also that of the complemented symbols.
abbrev pub sent_phase : Configuration → Option Chosen
sent_phase c = if is_sought c.phase then Some (record { skip = 0; cost = 0 }) else None
