-- How far a certificate is checked.
use Rattle.std.specs.Prelude.{◌≡◌, ℕ, ◌+◌, Bool, true, false, List, [], ◌∷◌, ◌++◌, length}
use Rattle.tm_conv.specs.declared.rates.Rate.{Rate}
use Rattle.tm_cert_file.specs.declared.seen.Reason.{Reason}
use Rattle.tm_cert_file.specs.declared.seen.Seen.{Seen}
use Rattle.tm_cert_file.specs.declared.seen.Seen.TheVariants.{More, Failed}
use Rattle.tm_cert_file.specs.Window.{Window}
use Rattle.tm_cert_file.specs.Before.{Rules}
use Rattle.tm_cert_file.specs.File.{IsRead, IsBroken, is_cut, kept_octets}
use Rattle.tm_cert_file.specs.Reading.{IsOpen, ReaderStandsFor}
use Rattle.tm_driver.specs.Turns.{but_last_turn}
use Rattle.tm_driver.specs.Writing.{Text, Out, Note}
use Rattle.tm_driver.specs.declared.ending.Outcome.{Outcome}
use Rattle.tm_driver.specs.declared.ending.Outcome.TheVariants.{Done, Bad, LeftOver}
use Rattle.tm_path_commands.specs.Check.{bits_kept, end_text}
use Rattle.tm_path_commands.specs.Lines.{window_text}
use Rattle.tm_path_commands.specs.declared.check_command.Checking.{Checking}

-- of each window, from this number and step on, the soft octets of its kept steps, and its line
abbrev pub window_texts : Rate → (number t : ℕ) → List Window → List Text
window_texts rate number t [] = []
window_texts rate number t (w ∷ windows) = Out (kept_octets rate t w)
    ∷ Note (window_text number w.steps w.kept w.metric)
    ∷ window_texts rate (number + 1) (t + w.kept) windows

-- since it was new a reader was given these octets; windows passed, which are counted, and their
-- texts were given
pub record Passes (new now : Checking) (octets : List ℕ) (texts : List Text) : Type 0 where
  pub rules : now.reader.rules ≡ new.reader.rules
  pub windows : List Window
  pub stands : ReaderStandsFor now.reader octets windows
  pub blocks : now.tally.blocks ≡ length windows
  pub bits : now.tally.bits ≡ bits_kept windows
  pub are : texts ≡ window_texts new.reader.rules.rate 0 0 windows

-- the same, and nothing is seen of the next window yet
abbrev pub Checks : (new now : Checking) → List ℕ → List Text → Type 0
Checks new now octets texts = IsOpen now.reader × Passes new now octets texts

-- all texts of octets that are read so: those of the windows that pass, and what the notes say
-- after them
pub record ChecksAll (rules : Rules) (seen : Seen) (cut : Bool) (octets : List ℕ)
    (texts : List Text) : Type 0 where
  pub windows : List Window
  pub read : IsRead rules octets windows seen
  pub ends : is_cut read.before.next read.rest ≡ cut
  pub are : texts ≡ window_texts rules.rate 0 0 windows ++ Note (end_text seen cut windows) ∷ []

-- a window fails, and none in the octets before the last turn
abbrev pub StopsChecking : (new now : Checking) → List ℕ → List Text → Type 0
StopsChecking new now octets texts =
    ((reason : Reason) × (cut : Bool) × ChecksAll new.reader.rules (Failed reason) cut octets texts)
    × ((windows : List Window) (reason : Reason)
    → IsBroken new.reader.rules (but_last_turn octets) windows reason → ⊥)

-- at the end the certificate is cut, or it is whole
abbrev pub EndsChecking : (new now : Checking) → List ℕ → List Text → Outcome → Type 0
EndsChecking new now octets texts Bad = ⊥
EndsChecking new now octets texts LeftOver = ChecksAll new.reader.rules More true octets texts
EndsChecking new now octets texts Done = ChecksAll new.reader.rules More false octets texts
