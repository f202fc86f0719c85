pub mod Fewest
pub mod FewestShape
pub mod Untouched
