pub mod Bodies
pub mod FirstPlaces
pub mod LeftMembers
pub mod Pointers
pub mod Shapes
pub mod WellFormed
pub mod Objects
