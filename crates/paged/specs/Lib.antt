pub mod Pairs
pub mod Parts
pub mod Bound
pub mod Changed
pub mod Edited
pub mod Paged
pub mod Sizes
pub mod Walk
