-- Iterators, their moves, and the samples of keys that they take; walks, and scans.
pub mod WalkLemmas
mod WalkingLemmas
pub mod ChargesLemmas
pub mod ReadSamplesLemmas
pub mod WalkCallLemmas
pub mod IteratorLemmas
pub mod IteratorLawsLemmas
pub mod IteratingLemmas
pub mod ReaderIteratingLemmas
pub mod ScanLemmas
pub mod SaysLemmas
pub mod ScanWalkLemmas
pub mod StoreScanLemmas
pub mod ScanSaysLemmas
