pub mod Nodes
pub mod Holding
pub mod Counts
