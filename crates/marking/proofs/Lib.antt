pub mod PiecesLaws
pub mod Turning
pub mod Writing
