pub mod Configuration
pub mod Accepted
