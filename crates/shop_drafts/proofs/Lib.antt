pub mod Keys
pub mod Orders
pub mod Counts
pub mod OwnParts
pub mod Beside
pub mod HeldOps
pub mod Unwritten
pub mod Apart
pub mod Shown
pub mod Seen
pub mod Replays
pub mod AtOnce
pub mod Logs
pub mod Merged
mod Parts
mod Worked
