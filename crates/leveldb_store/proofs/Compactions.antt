-- Compactions of an open store, and the merge that one makes.
pub mod MergingLemmas
pub mod MergeLoopLemmas
pub mod CuttingLemmas
pub mod BearingLemmas
mod CompactKeepsLemmas
mod CompactEditLemmas
mod CompactStoreLemmas
pub mod CompactCallLemmas
pub mod MergeInputsLemmas
mod MergedOpenLemmas
pub mod MergedInputsLemmas
pub mod MergedFilesLemmas
pub mod MergedMadeLemmas
pub mod MergedCausesLemmas
pub mod MergeFilesLemmas
pub mod MovedFileLemmas
pub mod CompactedLemmas
pub mod ReplacedFilesLemmas
pub mod CompactPickedLemmas
pub mod CompactLevelLemmas
pub mod CompactRangeLemmas
pub mod AskedCompactionLemmas
pub mod CompactsOnceLemmas
