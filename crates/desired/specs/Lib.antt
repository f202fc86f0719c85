pub mod Desired
