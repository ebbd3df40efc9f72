pub mod PackRefusals
pub mod Rows
pub mod Pack
pub mod PackClaims
pub mod inner
