pub mod Sizes
pub mod Growth
pub mod Shared
pub mod Discounted
pub mod ByRate
pub mod Kept
pub mod Taxing
pub mod WorkedCarts
