pub mod Answers
pub mod Going
pub mod Groups
pub mod ListingLaws
pub mod PutLaws
pub mod Putting
