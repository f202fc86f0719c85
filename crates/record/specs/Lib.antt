pub mod Accepted
pub mod Layout
pub mod LayoutShape
pub mod Record
pub mod RecordLesson
