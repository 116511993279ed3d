pub mod FieldNumbers
pub mod Counting
pub mod Levels
pub mod Leaves
pub mod Orders
pub mod Meanings
