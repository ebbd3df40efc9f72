pub mod Fronts
pub mod Symbols
pub mod ZeroTests
