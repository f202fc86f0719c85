pub mod Acceleration
pub mod Speed
pub mod AccelerationShape
