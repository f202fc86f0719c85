pub mod CruiseSpeedLaws
pub mod TickLaws
pub mod SettlingLaws
pub mod RoomLaws
pub mod ExampleLaws
