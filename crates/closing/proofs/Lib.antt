pub mod Idle
pub mod Marks
pub mod CloseRefusal
pub mod Closing
pub mod FullBlock
