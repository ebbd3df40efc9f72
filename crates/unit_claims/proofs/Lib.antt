pub mod UnitClaims
pub mod CanonicalUnit
pub mod ExpectedUnit
pub mod FirstByte
pub mod EndsEarly
