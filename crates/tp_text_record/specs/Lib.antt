pub mod Rests
pub mod EntryFits
pub mod RecordText
pub mod ReadRecord
pub mod Reading
pub mod AuditText
pub mod Judging
