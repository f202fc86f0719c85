pub mod Cleaning
pub mod Pieces
pub mod CleanFile
