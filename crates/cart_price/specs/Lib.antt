pub mod Nearest
pub mod LargestRemainder
pub mod Lent
