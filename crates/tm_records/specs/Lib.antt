pub mod Records
pub mod Batch
pub mod Erased
pub mod Erasing
pub mod Word
