pub mod Phase
pub mod Slip
pub mod Windows
pub mod Candidates
pub mod Sharing
pub mod Looks
pub mod Queue
pub mod Decoding
