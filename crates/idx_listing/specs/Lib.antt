pub mod Repricing
pub mod Relisting
pub mod Shown
