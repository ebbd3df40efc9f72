pub mod PartLaws
pub mod SdnvLaws
pub mod SdnvRound
pub mod AppendedLaws
