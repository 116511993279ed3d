pub mod Plans
pub mod Replaying
pub mod Taking
pub mod Numbers
pub mod Laws
pub mod Overlays
pub mod DraftSteps
pub mod DraftWrites
