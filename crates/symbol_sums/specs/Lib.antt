pub mod Chunks
pub mod Gather
