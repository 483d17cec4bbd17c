pub mod Window
pub mod Certificate
pub mod Before
pub mod Seen
pub mod File
pub mod Shown
pub mod Passes
pub mod Reading
