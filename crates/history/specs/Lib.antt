pub mod Neighbours
pub mod History
pub mod KeptDesired
