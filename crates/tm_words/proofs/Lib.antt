pub mod Building
pub mod Numerals
pub mod Rule
