-- The command `soak`: generated frames, and what is received of them.
use Rattle.std.specs.Prelude.{◌≡◌, ℕ, ◌*◌, ◌^◌, if◌then◌else◌, nat_le, nat_lt, List, [], codes, Option, Some, None}
use Rattle.tm_config.specs.Configuration.{Configuration, correctable}
use Rattle.tm_base.specs.Handed.{Handed, items_of}
use Rattle.tm_channel.specs.declared.totals.Totals.{Totals}
use Rattle.tm_channel.specs.Items.{ItemValue}
use Rattle.tm_channel.specs.Handing.{AreReceived}
use Rattle.tm_base.specs.Written.{Wrote}
use Rattle.tm_driver.specs.Meaning.{Meaning}
use Rattle.tm_cli.specs.Decode.{HasBad}
use Rattle.tm_cli.specs.Generated.{generated}
use Rattle.tm_cli.specs.Report.{counts_text}
use Rattle.tm_cli.specs.declared.soak_refusal.SoakRefusal.{SoakRefusal}
use Rattle.tm_cli.specs.declared.soak_refusal.SoakRefusal.TheVariants.{Seed, Frames, Hits}

-- seeds are below this
abbrev pub seed_bound : ℕ
seed_bound = 2 ^ 63

-- the most frames that are generated
abbrev pub most_frames : ℕ
most_frames = 1000000

-- the first value that is outside its range, or none; no more symbols of a codeword are changed
-- than it has check symbols
abbrev pub soak_refusal : Configuration → (seed frames hits : ℕ) → Option SoakRefusal
soak_refusal c seed frames hits =
    if nat_lt seed seed_bound then if nat_le frames most_frames then if nat_le hits
    (2 * correctable c.code) then None else Some Hits else Some Frames else Some Seed

-- the reason that the line gives
abbrev pub soak_reason : SoakRefusal → List ℕ
soak_reason Seed = codes "seed"
soak_reason Frames = codes "frames"
soak_reason Hits = codes "hits"

-- the last line of the report of all items that are received of the generated frames
pub record IsSoakLine (c : Configuration) (seed frames hits : ℕ) (line : List ℕ) : Type 0 where
  pub handed : List (Handed ItemValue)
  pub totals : Totals
  pub are_received : AreReceived c (generated c seed frames hits) handed totals
  pub is_line : line ≡ counts_text (items_of handed) totals.bits

-- `soak`: that line goes to the output, and there are no notes. It reads nothing.
abbrev pub soak_meaning : (seed frames hits : ℕ) → Configuration → Meaning
soak_meaning seed frames hits c = record {
  is_output = λ octets output. IsSoakLine c seed frames hits output.out × (output.notes ≡ []);
  is_due = λ octets output. ⊥;
  is_partial = λ octets. ⊥;
  is_bad = λ octets. HasBad c (generated c seed frames hits);
  is_in_order = λ octets output taken. Wrote taken.notes taken.notes_now [];
  stops_at_bad = ⊥;
}
