pub mod Codes
pub mod Tables
pub mod Fill
pub mod RefusalTable
pub mod Refusals
pub mod Units
pub mod inner
