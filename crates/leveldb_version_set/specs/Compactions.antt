-- Compactions: which is asked for, which files it takes, and what its edit leaves.
pub mod Cut
pub mod Compaction
pub mod CompactionLaws
pub mod Replacing
pub mod ShownFrom
pub mod CompactionEdit
pub mod Choosing
pub mod Contradictions
pub mod Inputs
pub mod Picking
pub mod InputMerge
