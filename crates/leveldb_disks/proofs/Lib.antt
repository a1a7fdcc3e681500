pub mod JournalLemmas
pub mod RecordLemmas
pub mod DiskEnvLemmas
