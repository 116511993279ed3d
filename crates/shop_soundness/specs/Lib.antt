pub mod Batches
pub mod Coherence
pub mod WellFormed
pub mod Origins
pub mod Outcomes
