pub mod Ids
pub mod Days
pub mod Checks
pub mod Operations
pub mod Places
