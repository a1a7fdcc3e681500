-- What a compaction leaves of an engine.
pub mod CompactionLawsLemmas
mod CompactingLemmas
pub mod CompactCallLemmas
