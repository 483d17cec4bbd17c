-- What is said of items, as plain numbers.
use Rattle.std.specs.Int.{from_bool}
use Rattle.std.specs.Prelude.{◌≡◌, ◌+◌, ℕ, not, List, [], ◌∷◌, length, map, take}
use Rattle.tm_rs.specs.declared.answers.Answer.{Answer}
use Rattle.tm_rs.specs.declared.answers.Answer.TheVariants.{Fixed, Beyond}
use Rattle.tm_channel.specs.Items.{ItemValue, are_fixed}
use Rattle.tm_buffers.specs.declared.items.Report.{Report}

-- how many symbols of a column were wrong, or 255 where it is uncorrectable
abbrev pub repaired_of : Answer → ℕ
repaired_of (Fixed count) = count
repaired_of Beyond = 255

-- this is what is said of an item, whose frame begins there
pub record IsReport (frame : ℕ) (item : ItemValue) (report : Report) : Type 0 where
  pub place : report.place ≡ item.found.place
  pub symbol : report.symbol ≡ item.symbol
  pub frame_at : report.frame ≡ frame
  pub frame_length : report.frame_length ≡ length item.frame
  pub distance : report.distance ≡ item.found.distance
  pub bridged : report.bridged ≡ from_bool item.found.bridged
  pub inverted : report.inverted ≡ from_bool item.found.inverted
  pub columns : report.columns ≡ length item.answers
  pub bad : report.bad ≡ from_bool (not (are_fixed item.answers))
  pub repaired : take (length item.answers) report.repaired ≡ map repaired_of item.answers

-- the same of one item after another, the frames joined
abbrev pub AreReports : (frame : ℕ) → List ItemValue → List Report → Type 0
AreReports frame [] [] = Unit {0}
AreReports frame (item ∷ items) (report ∷ reports) =
    IsReport frame item report × AreReports (frame + length item.frame) items reports
AreReports frame items reports = ⊥
