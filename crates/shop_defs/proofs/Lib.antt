pub mod Keys
pub mod LastChanges
pub mod Found
pub mod EachLine
pub mod TableLaws
