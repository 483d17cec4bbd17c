pub mod Bits
pub mod Places
pub mod Rescan
pub mod Finding
pub mod Marked
pub mod PlacesInside
pub mod Searching
pub mod Paused
