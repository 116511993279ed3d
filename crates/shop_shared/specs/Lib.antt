pub mod Views
pub mod Looks
pub mod Rule
pub mod Plays
pub mod Passes
pub mod Locks
