pub mod ReaderBefore
pub mod RunsOn
pub mod WrittenAgain
