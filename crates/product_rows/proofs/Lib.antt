pub mod Parts
pub mod Same
pub mod Outside
pub mod Referring
