pub mod See
pub mod SeeShape
pub mod SceneCalls
