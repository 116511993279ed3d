pub mod Affecting
pub mod Reading
