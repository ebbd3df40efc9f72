pub mod Symbols
pub mod BlockRefusal
pub mod Taking
pub mod Exits
