pub mod Buffer
pub mod Sending
pub mod Windows
pub mod Decoding
pub mod Searching
pub mod Reports
pub mod Items
pub mod Receiving
