pub mod References
pub mod Parents
pub mod Deletes
pub mod Upserts
pub mod Views
pub mod Operations
pub mod Soundness
pub mod Outcomes
