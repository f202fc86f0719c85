pub mod Turning
pub mod Writing
pub mod PiecesLaws
