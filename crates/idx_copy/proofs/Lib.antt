pub mod Joining
pub mod Answered
