pub mod Examples
pub mod SightingLaws
pub mod SightingShapeLaws
pub mod ValueLaws
pub mod WholeLaws
