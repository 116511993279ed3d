pub mod HeadReading
pub mod FieldLemmas
pub mod Ends
pub mod Cutting
pub mod Least
