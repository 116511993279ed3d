pub mod IdTexts
mod IdBytes
mod DayFacts
pub mod DayRange
mod DayTexts
pub mod KeptFits
pub mod ReadFits
mod LeastPlaces
mod GivenFields
mod Ascending
