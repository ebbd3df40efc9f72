pub mod States
pub mod Plan
pub mod Values
pub mod Peel
