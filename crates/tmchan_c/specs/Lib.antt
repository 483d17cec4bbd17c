pub mod Options
pub mod Refusal
pub mod Texts
pub mod Repaired
pub mod Unit
pub mod Kept
pub mod Streams
pub mod Searches
