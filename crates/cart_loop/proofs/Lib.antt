pub mod FieldNumbers
pub mod Turns
pub mod Kept
pub mod Answered
pub mod Few
pub mod Samenesses
pub mod Answers
mod WorkedCarts
