pub mod Live
pub mod Categories
pub mod Laws
pub mod WorkedRows
