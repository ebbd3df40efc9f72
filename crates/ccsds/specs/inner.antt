pub mod Layout
pub mod Compact
