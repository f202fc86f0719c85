pub mod CleanFileLaws
pub mod PiecesLaws
pub mod Turning
