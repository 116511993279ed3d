pub mod Found
pub mod Walks
pub mod Levels
pub mod Paths
pub mod Worked
