pub mod Settling
pub mod CruiseSpeed
