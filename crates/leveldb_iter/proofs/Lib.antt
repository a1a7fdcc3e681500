mod CountLemmas
mod CutLemmas
mod MergeLemmas
pub mod MergedLemmas
mod MergedEntriesLemmas
pub mod LayersMergedLemmas
mod ChildrenLemmas
pub mod MovesLemmas
mod InMemoryLemmas
mod WalkIterLemmas
mod ChoiceLemmas
mod MergingIterLemmas
mod SnapshotLemmas
pub mod DbIterLemmas
pub mod DbIterBackLemmas
pub mod DbIterTurnLemmas
pub mod DbIterMoveLemmas
