pub mod Field
pub mod Poly
pub mod Logarithm
pub mod Dual
pub mod Octet
pub mod Halves
