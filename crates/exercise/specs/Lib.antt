pub mod Exercise
pub mod Pieces
