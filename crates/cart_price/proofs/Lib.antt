pub mod Halves
pub mod Ranks
pub mod Sharing
pub mod Fairness
