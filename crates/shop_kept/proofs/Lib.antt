pub mod Loop
pub mod NotText
pub mod Readable
pub mod Words
pub mod Values
pub mod Operations
pub mod Rows
pub mod Fitting
