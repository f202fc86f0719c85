pub mod Cruise
