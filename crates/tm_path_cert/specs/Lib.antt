pub mod Claim
pub mod Tests
pub mod Checking
