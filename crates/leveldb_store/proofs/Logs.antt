-- Logs that are read and replayed, and what is left out of one.
mod PlacedFragmentsLemmas
pub mod LogDamageLemmas
pub mod WholeLogLemmas
pub mod ReplayFilesLemmas
pub mod ReplayLogLemmas
pub mod LogSourceLemmas
pub mod LogReplayLemmas
pub mod ReadBatchLemmas
pub mod NextFoundLemmas
pub mod ReplayStoreLemmas
pub mod ReadLogsLemmas
pub mod FoundLogsLemmas
pub mod ReplayAllLemmas
pub mod ReplayDamageLemmas
mod ReplayMoreLemmas
pub mod ReplayNextLemmas
pub mod ReplayLoopLemmas
