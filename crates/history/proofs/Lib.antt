pub mod FromTheList
pub mod Demand3
pub mod LateFill
