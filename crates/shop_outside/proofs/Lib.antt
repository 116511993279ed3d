pub mod Ascending
pub mod Bytes
pub mod InPages
pub mod Finding
pub mod Known
pub mod Pieces
pub mod Unchanged
pub mod Untouched
