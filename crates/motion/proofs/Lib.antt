pub mod AccelerationLaws
pub mod AccelerationShapeLaws
pub mod KickDownLaws
pub mod PedalLaws
pub mod SignedLaws
pub mod SpeedLaws
