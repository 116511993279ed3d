pub mod Products
pub mod Streams
pub mod Listings
pub mod Direct
pub mod Laws
pub mod WorkedRows
