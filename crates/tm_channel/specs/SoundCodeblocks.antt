-- Whole codeblocks that are correctable, and whether they are found where codeblocks are looked for
-- inside others too.
use Rattle.std.specs.Prelude.{◌≡◌, ◌⊎◌, ℕ, ◌+◌, ◌*◌, ◌≤◌, Bool, true, false, List, length, drop, Some}
use Rattle.std.specs.List.{Any}
use Rattle.tm_base.specs.Marker.{marker_size}
use Rattle.tm_config.specs.Configuration.{Configuration, codeblock_length}
use Rattle.tm_sync.specs.Places.{found_at, match_of}
use Rattle.tm_sync.specs.PlacesInside.{Hides}
use Rattle.tm_codeblock.specs.ReceivedCodeblock.{rules_of, code_columns, received_codeblock, sound_in}
use Rattle.tm_channel.specs.Items.{ItemValue, IsItem, are_fixed}

-- a marker matches at this bit, in this polarity, and after it stands a whole codeblock, of which no
-- column is uncorrectable
pub record IsSoundAt (c : Configuration) (bits : List Bool) (at : ℕ)
    (inverted : Bool) : Type 0 where
  pub room : at + marker_size + 8 * codeblock_length c ≤ length bits
  pub matches : match_of (rules_of c) (drop at bits) ≡ Some inverted
  pub is_sound : sound_in c bits at inverted ≡ true

-- One of these items is that of this codeblock, each column of which is repaired. Or one is that of
-- a sound codeblock that hides it: the marker stands inside that one, and before its last symbols,
-- or another marker matches right after it.
abbrev pub IsFoundAt : Configuration → List Bool → ℕ → Bool → List ItemValue → Type 0
IsFoundAt c bits at inverted items =
    Any (λ item. IsItem c (found_at at false inverted (drop at bits))
    (received_codeblock c bits at inverted) item × (are_fixed item.answers ≡ true)) items
    ⊎ Any (λ item. Hides (rules_of c) (code_columns c) (sound_in c bits) bits at item.found) items
