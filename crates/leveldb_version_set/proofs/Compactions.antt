-- Compactions: which is asked for, which files it takes, and what its edit leaves.
pub mod CompactionLemmas
pub mod CompactedFilesLemmas
pub mod CompactionOutputsLemmas
pub mod ReplacingLemmas
pub mod CompactionEditLemmas
pub mod CompactionEditFitsLemmas
pub mod ShownFromLemmas
pub mod ChoosingLemmas
pub mod ContradictionLemmas
pub mod InputsLemmas
pub mod PickingLemmas
pub mod CompactionCallLemmas
pub mod AmongLemmas
pub mod CutLemmas
