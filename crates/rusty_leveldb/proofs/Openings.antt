-- How an engine opens a store, to be written or to be read alone.
pub mod UnopenedLemmas
pub mod AskedLemmas
pub mod LockLemmas
mod OpeningLemmas
mod UnopenedStepLemmas
pub mod UnderLockLemmas
pub mod OpenCallLemmas
pub mod LeftOpeningLemmas
pub mod LateOpeningLemmas
pub mod DoneOpeningLemmas
pub mod ReadAloneLemmas
pub mod ReaderOpeningLemmas
pub mod ReadAloneLawsLemmas
