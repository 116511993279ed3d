pub mod Requests
pub mod HeadReader
pub mod Heads
pub mod Laws
pub mod Words
pub mod Responses
