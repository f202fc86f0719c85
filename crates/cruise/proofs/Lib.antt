pub mod CruiseLaws
pub mod SignedNumber
