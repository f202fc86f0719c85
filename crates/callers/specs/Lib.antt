pub mod Callers
pub mod AlikeRecords
pub mod StoredRecord
