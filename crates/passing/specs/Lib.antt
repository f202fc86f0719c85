pub mod Passing
pub mod PassingShape
pub mod FirstPass
