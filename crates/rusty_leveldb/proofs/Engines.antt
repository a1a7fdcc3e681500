-- An engine beside the machine: what it has in memory, and what each call does.
pub mod ReadsLemmas
pub mod Bounds
mod Crashed
pub mod Crashes
pub mod Moments
pub mod Others
pub mod Batching
pub mod EngineLemmas
pub mod SyncLemmas
pub mod ClosingLemmas
pub mod ReadingLemmas
pub mod KeptLemmas
pub mod HeldViewsLemmas
mod KeepsOrCompactsLemmas
pub mod RoomInLemmas
pub mod TidyLemmas
pub mod WritingLemmas
pub mod RestLemmas
pub mod SnapshotLemmas
pub mod CallsLemmas
mod NoneDueLemmas
pub mod WriteCallLemmas
pub mod UnknownLemmas
pub mod RowLemmas
pub mod CallLawsLemmas
pub mod SaysLemmas
