pub mod Changes
pub mod RecordLaws
pub mod Recorded
