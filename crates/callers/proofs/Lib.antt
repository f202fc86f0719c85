pub mod AlikeRecordsLaws
pub mod CallersLaws
pub mod LeftLaws
pub mod StoredRecordLaws
