pub mod Column
pub mod Interleaved
pub mod Sequence
pub mod Masked
pub mod Frames
pub mod Cadu
pub mod ReceivedCodeblock
