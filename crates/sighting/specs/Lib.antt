pub mod Value
pub mod Sighting
pub mod Exactly
pub mod SightingShape
