pub mod Chain
mod Worked
