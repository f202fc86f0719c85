pub mod Filling
pub mod Floats
pub mod InputLaws
pub mod OutputLaws
