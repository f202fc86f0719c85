pub mod Fields
pub mod Input
pub mod Output
pub mod Puts
pub mod Reading
