pub mod SumWithout
pub mod Dependence
pub mod RowChanges
pub mod RowSums
pub mod Expressed
pub mod UnusedSums
pub mod Restored
