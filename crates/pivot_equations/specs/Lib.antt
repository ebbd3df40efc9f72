pub mod Express
pub mod Unused
pub mod OfSystem
