pub mod Generator
pub mod Counts
pub mod Locator
pub mod State
pub mod Answers
pub mod Naming
