-- Iterators, their moves, and the samples of keys that they take; walks, and scans.
pub mod ReadSamples
pub mod Walks
pub mod Iterator
pub mod IteratorLaws
pub mod Scan
pub mod StoreScan
