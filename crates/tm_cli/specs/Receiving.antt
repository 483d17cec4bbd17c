-- What is received of the octets that were read, and what is given and counted of it.
use Rattle.std.specs.Prelude.{◌≡◌, ℕ, ◌≤◌, List, length}
use Rattle.tm_base.specs.Handed.{Handed, items_of}
use Rattle.tm_base.specs.Limits.{most_limit}
use Rattle.tm_base.specs.Takers.{HandedOver}
use Rattle.tm_config.specs.Configuration.{Configuration}
use Rattle.tm_channel.specs.declared.totals.Totals.{Totals}
use Rattle.tm_channel.specs.Items.{ItemValue}
use Rattle.tm_channel.specs.Handing.{AreReceived, AreReceivedDue}
use Rattle.tm_channel.specs.OctetReceiving.{OctetReceiving, ReceiverStandsFor}
use Rattle.tm_driver.specs.Writing.{Text}
use Rattle.tm_driver.specs.declared.ending.Outcome.{Outcome}
use Rattle.tm_cli.specs.Report.{bad}
use Rattle.tm_cli.specs.Taken.{CountedHanded, IsOutcome, all_texts, no_counts, texts_by}
use Rattle.tm_cli.specs.declared.counts.Counts.{Counts}

-- it was opened for the workers of its configuration, and the last call was by all of them
abbrev pub IsByAll : OctetReceiving → Type 0
IsByAll receiver = receiver.by ≡ receiver.config.workers

-- a receiver that was given these octets and no others, and what it has handed over, which is all
-- that is due, and was counted so
pub record HandedDue (c : Configuration) (receiver : OctetReceiving) (counts : Counts)
    (octets : List ℕ) : Type 0 where
  pub handed : List (Handed ItemValue)
  pub config : receiver.config ≡ c
  pub counted : HandedOver CountedHanded no_counts handed counts
  pub stands : length octets ≤ most_limit → ReceiverStandsFor receiver octets handed
      × AreReceivedDue c octets handed

-- and the texts of what it has handed over, which were given
pub record Decodes (c : Configuration) (receiver : OctetReceiving) (counts : Counts)
    (octets : List ℕ) (texts : List Text) : Type 0 where
  pub due : HandedDue c receiver counts octets
  pub are : texts ≡ texts_by no_counts due.handed

-- at the end of the octets all texts were given, with this outcome
pub record DecodesAll (c : Configuration) (octets : List ℕ) (texts : List Text)
    (outcome : Outcome) : Type 0 where
  pub handed : List (Handed ItemValue)
  pub totals : Totals
  pub are_received : AreReceived c octets handed totals
  pub are : texts ≡ all_texts handed totals
  pub is_outcome : IsOutcome (bad (items_of handed)) outcome
