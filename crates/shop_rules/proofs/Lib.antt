pub mod FieldNumbers
pub mod Weekdays
pub mod Alike
pub mod Referring
pub mod Ranks
