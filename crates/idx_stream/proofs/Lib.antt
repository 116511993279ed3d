pub mod FieldNumbers
pub mod Same
pub mod FoundFilters
pub mod Belonging
