pub mod ReadersBefore
pub mod RulesBefore
pub mod Towing
