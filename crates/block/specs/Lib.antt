pub mod Block
pub mod Status
pub mod Open
pub mod Take
pub mod inner
