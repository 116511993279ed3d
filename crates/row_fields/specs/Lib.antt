pub mod Fields
pub mod Checked
