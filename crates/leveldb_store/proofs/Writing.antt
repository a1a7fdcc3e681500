-- Batches that are written, and room in the memtable.
pub mod WriteLemmas
pub mod SwitchLemmas
mod BatchShownLemmas
pub mod Level0TableLemmas
pub mod RoomLemmas
pub mod RemovalLemmas
pub mod SyncBatchLemmas
pub mod LogBatchLemmas
mod BatchHistoryLemmas
pub mod WriteBatchLemmas
pub mod TableEntriesLemmas
pub mod AddedTableLemmas
pub mod DueLemmas
