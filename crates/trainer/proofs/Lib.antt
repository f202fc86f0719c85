pub mod Demand3Laws
pub mod RecordCallLaws
