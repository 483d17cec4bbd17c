pub mod Path
pub mod Cost
pub mod Counts
pub mod Best
pub mod Columns
pub mod Encoding
pub mod Octets
