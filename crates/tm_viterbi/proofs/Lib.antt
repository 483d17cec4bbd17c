mod Back
mod Survivors
mod Walk
mod Totals
mod Final
mod Overlap
mod BranchMetrics
mod StepPairs
mod Vectors
mod Places
mod Butterfly
mod PassSteps
mod Carrying
mod NarrowLanes
mod Halves
mod StepsBack
mod LeastTotals
pub mod Closing
pub mod WholeBlocks
pub mod LeastCost
pub mod Distances
pub mod OneList
pub mod CleanBlocks
pub mod HasBlocks
pub mod ClosedPrefix
