pub mod ExerciseLaws
pub mod PiecesLaws
pub mod Turning
