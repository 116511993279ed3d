pub mod FieldNumbers
pub mod Naming
pub mod Walks
pub mod Ranked
pub mod Prices
pub mod InOrder
