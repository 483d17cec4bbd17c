pub mod ColumnLaws
pub mod Sequences
pub mod Masks
mod SequenceTable
pub mod Frames
pub mod Codeblocks
pub mod Complemented
pub mod PlacesIn
