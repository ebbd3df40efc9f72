pub mod Close
pub mod FullBlock
pub mod inner
