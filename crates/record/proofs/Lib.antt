pub mod Answers
pub mod LayoutLaws
pub mod RecordLaws
pub mod RecordLessonLaws
pub mod Sameness
