pub mod SceneCallsLaws
pub mod SeeLaws
