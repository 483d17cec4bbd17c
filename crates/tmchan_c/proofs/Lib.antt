pub mod Options
pub mod Texts
pub mod AsBox
pub mod BoxWalks
pub mod Streams
