pub mod Positions
pub mod Steps
