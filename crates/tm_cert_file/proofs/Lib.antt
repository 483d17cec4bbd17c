mod BigEndian
mod Spans
pub mod Stages
mod Prefixes
pub mod Looking
pub mod Passing
mod Pushing
mod SeenOnce
mod ReadFile
mod ShownWindows
mod RoundTrip
mod ColumnsPass
mod WindowPasses
mod AllPass
mod ColumnLists
mod WindowTexts
pub mod ManyWindows
