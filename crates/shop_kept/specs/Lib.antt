pub mod Spelling
pub mod Readers
pub mod Reading
pub mod Laws
