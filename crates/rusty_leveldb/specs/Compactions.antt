-- What a compaction leaves of an engine.
pub mod Compact
pub mod CompactionLaws
