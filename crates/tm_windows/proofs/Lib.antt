pub mod Steps
mod Least
pub mod Phases
pub mod Slips
mod Runs
mod WindowRuns
mod FirstDrops
mod Endings
mod Existing
pub mod Beginnings
pub mod FollowedOnce
pub mod FollowedExists
pub mod Undisturbed
pub mod FollowedRuns
pub mod PlainWindows
pub mod HeldOctets
pub mod ReadOctets
mod QueueRuns
mod Queues
mod LastWindow
mod GivenPhase
pub mod KeptBits
