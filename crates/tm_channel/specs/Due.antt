-- Which codeblocks' items a receiver hands over before the end of the bits is known.
use Rattle.std.specs.Prelude.{ℕ, ◌*◌, ◌/◌, Bool, List, length, take}
use Rattle.tm_config.specs.Configuration.{Configuration}
use Rattle.tm_sync.specs.declared.found.Found.{Found}
use Rattle.tm_codeblock.specs.ReceivedCodeblock.{places_in}

-- how many of `count` items are in whole batches of `size` items
abbrev pub in_batches : ℕ → ℕ → ℕ
in_batches size count = size * (count / size)

-- how many of these places have items that are due: those in whole batches of the configuration
abbrev pub due_count_of : Configuration → List Found → ℕ
due_count_of c found = in_batches c.batch (length found)

-- these places: the first ones
abbrev pub due_of : Configuration → List Found → List Found
due_of c found = take (due_count_of c found) found

-- those of the places of bits
abbrev pub due_count : Configuration → List Bool → ℕ
due_count c bits = due_count_of c (places_in c bits)

abbrev pub due : Configuration → List Bool → List Found
due c bits = due_of c (places_in c bits)
