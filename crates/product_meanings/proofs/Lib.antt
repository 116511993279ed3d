pub mod Picked
pub mod Prices
pub mod Worked
pub mod Answering
