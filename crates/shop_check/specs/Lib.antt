pub mod Kinds
pub mod Rules
pub mod Soundness
pub mod Standing
pub mod Damage
pub mod Found
