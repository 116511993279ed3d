pub mod Printed
pub mod Lengths
mod DayReads
pub mod Calendar
pub mod RowTokens
mod FieldLaws
pub mod Chain
