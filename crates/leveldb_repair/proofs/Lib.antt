mod OpenFileLemmas
mod OneMergeLemmas
mod FoundLogsLemmas
mod FindLogsLemmas
pub mod ReadableLemmas
mod FindTableLemmas
mod FoundTablesLemmas
mod NumbersLemmas
mod LookOverLemmas
mod MergedListsLemmas
mod NoneGoesLemmas
mod WriteFoundLemmas
pub mod FoundWalkTableLemmas
pub mod FoundWalkOpenLemmas
pub mod FoundWalkLemmas
pub mod FoundWalkBesideLemmas
pub mod FoundWalkBearingLemmas
pub mod RepairClashLemmas
pub mod RepairMergeLemmas
pub mod RepairFoundClashLemmas
pub mod RepairNumbersLemmas
mod ManifestNumbersLemmas
pub mod RepairBearsLemmas
pub mod RepairChildrenLemmas
pub mod RepairFailsLemmas
mod RepairStoreLemmas
pub mod TablePartsLemmas
mod RepairWriteLemmas
mod RepairLookLemmas
mod RepairWalksLemmas
mod RepairFindLemmas
mod RepairWholeLemmas
pub mod RepairAgainLemmas
pub mod RepairPartsLemmas
