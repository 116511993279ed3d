pub mod Refreshing
pub mod Only
