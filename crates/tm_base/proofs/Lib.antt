pub mod Known
pub mod Pieces
pub mod Octets
pub mod Packing
pub mod LowBits
pub mod InMemory
pub mod BitsLeft
pub mod Handing
pub mod HandedItems
mod SoftForms
