pub mod ReaderLaws
pub mod RunsOnLaws
pub mod WrittenAgainLaws
