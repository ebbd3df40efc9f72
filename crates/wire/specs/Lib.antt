pub mod Bytes
pub mod Sdnv
pub mod SdnvClaims
pub mod inner
