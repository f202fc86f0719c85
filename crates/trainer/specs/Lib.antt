pub mod RecordCall
pub mod Calls
pub mod Demand3
