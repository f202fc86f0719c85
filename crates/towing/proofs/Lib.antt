pub mod ReadersBeforeLaws
pub mod RulesBeforeLaws
pub mod TowingLaws
