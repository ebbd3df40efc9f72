pub mod Table
pub mod Valid
pub mod FlatTable
pub mod RefusalOrder
pub mod Refusals
pub mod FillLaws
pub mod UnitLaws
