pub mod Added
pub mod AllZeroLaws
pub mod Put
pub mod Sums
pub mod Writes
pub mod Zeros
