pub mod Seeking
pub mod LeverWordLaws
pub mod FirstLaws
pub mod FewestLaws
pub mod ReachedLaws
pub mod FewestFigures
