pub mod FieldNumbers
pub mod Repriced
pub mod Counts
pub mod Relisted
pub mod Ways
pub mod Pages
