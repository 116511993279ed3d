pub mod FieldPlaces
pub mod Fields
