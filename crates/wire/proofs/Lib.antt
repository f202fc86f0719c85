pub mod Filling
pub mod Putting
pub mod WireLaws
