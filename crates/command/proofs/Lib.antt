pub mod NumberLaws
pub mod Reading
