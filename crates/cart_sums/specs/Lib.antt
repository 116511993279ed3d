pub mod Taxes
pub mod Discounts
pub mod Positions
pub mod Sums
pub mod Fits
