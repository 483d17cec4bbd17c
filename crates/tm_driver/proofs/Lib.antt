mod OneTurn
mod Turns
pub mod FedStage
pub mod SinkTexts
pub mod TwoSinks
pub mod Pieces
pub mod Answered
pub mod Writing
pub mod Staged
