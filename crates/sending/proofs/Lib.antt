pub mod Writable
pub mod ShowLaws
