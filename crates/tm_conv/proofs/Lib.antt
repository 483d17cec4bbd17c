pub mod Sizes
pub mod Paths
pub mod DictionaryOrder
pub mod Unique
mod HasBest
pub mod LeastColumns
pub mod Clean
mod Starts
pub mod Complement
mod Encoded
pub mod EqualLists
mod OctetTables
mod KeptSymbols
mod LanesTaken
mod OctetPaths
mod BitsInOrder
mod Counted
