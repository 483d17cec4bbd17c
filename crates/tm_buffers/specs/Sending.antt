-- A sender whose symbols go to a buffer.
use Rattle.std.specs.Prelude.{ℕ, ◌+◌, ◌*◌, ◌/◌, nat_le, if◌then◌else◌, Option, Some, None}
use Rattle.tm_config.specs.Configuration.{Configuration}
use Rattle.tm_inner.specs.Sending.{most_symbols}
use Rattle.tm_codeblock.specs.Cadu.{unit_size}
use Rattle.tm_buffers.specs.Buffer.{most_taken}

-- For how many symbols there has to be room where `count` more octets are given: for those of a
-- unit for each frame that may become whole, and one more. No more than 2^40 octets are taken at a
-- time.
abbrev pub symbols_room : Configuration → ℕ → Option ℕ
symbols_room c count = if nat_le count most_taken
    then Some ((count / c.frame_length + 1) * unit_size c * most_symbols c + 1)
    else None
