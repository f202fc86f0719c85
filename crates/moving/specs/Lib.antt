pub mod Moving
pub mod Pieces
