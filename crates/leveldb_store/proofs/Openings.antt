-- How a store is opened, to be written or to be read alone.
pub mod OpeningNamesLemmas
pub mod ListingLemmas
pub mod OpeningCausesLemmas
pub mod OpeningSyncsLemmas
pub mod ReadAloneLemmas
pub mod OpeningFindLemmas
mod OpeningDamageLemmas
pub mod RecoverSetLemmas
mod OpeningLogLemmas
mod OpeningEndLemmas
mod OpeningKeptLemmas
mod OpeningMadeLemmas
mod OpeningNumbersLemmas
mod FoundFilesLemmas
mod OpeningSameLemmas
mod TableSizesLemmas
mod OpeningRecoveredLemmas
pub mod OpeningFrontLemmas
mod FoundNumbersLemmas
pub mod OpeningRecoverLemmas
pub mod OpeningOpenLemmas
pub mod OpeningBeginLemmas
mod OpeningBytesLemmas
pub mod EndsOpeningLemmas
pub mod EndedLemmas
