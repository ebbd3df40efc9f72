pub mod Sums
pub mod Lists
pub mod Codeword
pub mod Staircase
pub mod Words
pub mod Agreeing
pub mod Unique
