pub mod BothTexts
pub mod FieldNumbers
pub mod Places
pub mod Firsts
