pub mod Equations
pub mod Pivots
pub mod MissingPositions
pub mod Outcome
