pub mod FieldNumbers
pub mod Bounds
pub mod Ranges
pub mod Carts
pub mod Assembled
pub mod Shown
pub mod Chosen
pub mod ShippingChosen
