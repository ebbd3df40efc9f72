pub mod LengthLaws
pub mod AppendingLaws
pub mod RowLaws
pub mod RefusalList
pub mod Packable
pub mod PackedRows
pub mod PackClaims
