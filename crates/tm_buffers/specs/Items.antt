-- Items that are written to buffers.
use Rattle.std.specs.Prelude.{◌≡◌, ◌⊎◌, ℕ, suc, ◌<◌, ◌≤◌, ◌==◌, if◌then◌else◌, List, length, take, Option, Some, None}
use Rattle.tm_channel.specs.Items.{ItemValue, frames_of}
use Rattle.tm_buffers.specs.Buffer.{IsAll, over}
use Rattle.tm_buffers.specs.Reports.{AreReports}
use Rattle.tm_buffers.specs.declared.items.BufferItems.{BufferItems}
use Rattle.tm_buffers.specs.declared.items.Report.{Report}
use Rattle.tm_buffers.specs.declared.items.Written.{Written}

-- Of these items the first ones were written, as many as `written` says: their reports and their
-- frames, and no others, stand at the start of two arrays, which are as they were behind them. They
-- are all, and the answer is how many they are; or there was no room for the next one, and there is
-- no answer.
pub record HasWritten (count : Option ℕ) (items : List ItemValue) (frames frames_now : List ℕ)
    (reports reports_now : List Report) (written : Written) : Type 0 where
  pub within : written.reports ≤ length items
  pub answer : count
      ≡ (if written.reports == length items then Some written.reports else None)
  pub said : List Report
  pub are_reports : AreReports 0 (take written.reports items) said
  pub reports_hold : reports_now ≡ over said reports
  pub frames_hold : frames_now ≡ over (frames_of (take written.reports items)) frames
  pub octets : written.octets ≡ length (frames_of (take written.reports items))
  pub windows : written.windows ≡ 0
  pub full : written.reports < length items → (length reports ≤ written.reports)
      ⊎ (length frames < length (frames_of (take (suc written.reports) items)))

-- So stand they in arrays that were lent by these names, and it is known whether these are all.
pub record HasCollected (lent lent_reports : ℕ) (frames : List ℕ) (reports : List Report)
    (items : List ItemValue) (b : BufferItems) : Type 0 where
  pub loan : b.frames.ghost_name ≡ lent
  pub reports_loan : b.reports.ghost_name ≡ lent_reports
  pub long : length b.frames.now ≡ length frames
  pub reports_long : length b.reports.now ≡ length reports
  pub written : HasWritten (if b.count == length items then Some b.count else None) items frames
      b.frames.now reports b.reports.now
      (record { reports = b.count; octets = b.octets; windows = 0 })
  pub is_all : IsAll b.is_short b.count (length items)
