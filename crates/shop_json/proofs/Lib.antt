pub mod Bodies
pub mod Constant
pub mod DoneText
