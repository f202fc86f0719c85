pub mod Request
pub mod Number
