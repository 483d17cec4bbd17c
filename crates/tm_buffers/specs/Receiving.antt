-- A receiver whose items go to buffers.
use Rattle.std.specs.Prelude.{◌≡◌, ℕ, ◌*◌, ◌≤◌, ◌==◌, nat_le, true, false, if◌then◌else◌, List, ◌++◌, length, Option, Some, None, IsSome}
use Rattle.tm_base.specs.Handed.{Handed, items_of}
use Rattle.tm_channel.specs.declared.totals.Totals.{Totals}
use Rattle.tm_channel.specs.Handing.{AreReceived, AreReceivedDue}
use Rattle.tm_config.specs.Configuration.{Configuration}
use Rattle.tm_channel.specs.Items.{ItemValue}
use Rattle.tm_channel.specs.Most.{most_items}
use Rattle.tm_channel.specs.OctetReceiving.{OctetReceiving, ReceiverStandsFor}
use Rattle.tm_inner.specs.Phase.{IsChosen}
use Rattle.tm_buffers.specs.Items.{HasWritten}
use Rattle.tm_buffers.specs.Buffer.{has_room, most_taken}
use Rattle.tm_buffers.specs.Windows.{HasWrittenWindows, windows_room}
use Rattle.tm_inner.specs.declared.window.Window.{Window}
use Rattle.tm_buffers.specs.declared.items.Report.{Report}
use Rattle.tm_buffers.specs.declared.items.Written.{Written}

-- For how many items there has to be room where at most `count` more octets are given, and at the
-- end, whatever was given before. None where `count` is above 2^40.
abbrev pub items_room : Configuration → ℕ → Option ℕ
items_room c count = if nat_le count most_taken then Some (most_items c count) else None

-- there is room for a report and a frame of each of `items` items
abbrev pub HasRoom : Configuration → Option ℕ → List ℕ → List Report → Type 0
HasRoom c None frames reports = ⊥
HasRoom c (Some items) frames reports =
    (items ≤ length reports) × (items * c.frame_length ≤ length frames)

-- where there is the room of `items_room` for `octets` octets or more, all items were written
abbrev pub IsEnough : Configuration → ℕ → Option ℕ → List ℕ → List Report → Type 0
IsEnough c octets count frames reports = (most : ℕ) → octets ≤ most
    → HasRoom c (items_room c most) frames reports → IsSome count

-- a receiver that was given these octets and no others, and has handed over this
pub record IsReceiving (receiver : OctetReceiving) (given : List ℕ)
    (done : List (Handed ItemValue)) : Type 0 where
  pub going : receiver.has_stopped ≡ false
  pub stands : ReceiverStandsFor receiver given done

-- given further octets, a receiver goes on, and what is due with them was written, all of it where
-- there is the room that is said
pub record Receives (receiver now : OctetReceiving) (given octets : List ℕ)
    (done : List (Handed ItemValue)) (count : Option ℕ) (frames frames_now : List ℕ)
    (reports reports_now : List Report) (said : Written) : Type 0 where
  pub more : List (Handed ItemValue)
  pub receiving : IsReceiving now (given ++ octets) (done ++ more)
  pub due : AreReceivedDue receiver.config (given ++ octets) (done ++ more)
  pub written : HasWritten count (items_of more) frames frames_now reports reports_now said
  pub enough : IsEnough receiver.config (length octets) count frames reports

-- at the end of its octets, which came to this, what is left was written in the same way, and the
-- phase is chosen, where it is to be found
pub record ReceivesLast (receiver now : OctetReceiving) (given : List ℕ)
    (done : List (Handed ItemValue)) (count : Option ℕ) (totals : Totals)
    (frames frames_now : List ℕ) (reports reports_now : List Report) (said : Written) : Type 0 where
  pub last : List (Handed ItemValue)
  pub all : AreReceived receiver.config given (done ++ last) totals
  pub written : HasWritten count (items_of last) frames frames_now reports reports_now said
  pub enough : IsEnough receiver.config 0 count frames reports
  pub chosen : IsChosen receiver.config given now.stages.inner.chosen

-- Of windows of which this is true the first were written to an array, as many as is said, and all
-- where there is the room that is said for `octets` octets or for more. The answer is that of the
-- items, or there is none where not all windows were written.
pub record WritesWindows (Are : List Window → Type 0) (c : Configuration) (octets : ℕ)
    (array array_now : List Window) (count result : Option ℕ) (said : Written) : Type 0 where
  pub windows : List Window
  pub are : Are windows
  pub written : HasWrittenWindows windows array array_now said.windows
  pub answer : result ≡ (if said.windows == length windows then count else None)
  pub enough : (most : ℕ) → octets ≤ most
      → has_room (windows_room c most) (length array) ≡ true → said.windows ≡ length windows
