-- Compactions of an open store, and the merge that one makes.
pub mod Passing
pub mod Merging
pub mod Cutting
pub mod MergeInputs
pub mod Compact
pub mod CompactPicked
