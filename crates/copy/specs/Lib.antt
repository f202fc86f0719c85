pub mod Copy
pub mod CopyShape
pub mod CleanCopy
