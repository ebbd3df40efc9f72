pub mod UnitClaims
pub mod inner
