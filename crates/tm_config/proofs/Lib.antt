pub mod Choices
pub mod Accepting
pub mod Numbers
pub mod Lengths
