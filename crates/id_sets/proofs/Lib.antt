pub mod Sets
pub mod Cutting
