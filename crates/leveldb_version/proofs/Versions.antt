-- Versions: their files in order, look-ups through them, and samples of reads.
pub mod VersionLemmas
pub mod ChangeLemmas
pub mod SeeksLemmas
pub mod FindFileLemmas
pub mod SearchLemmas
pub mod GetLemmas
pub mod DisjointLemmas
pub mod PairwiseLemmas
pub mod SamplingLemmas
pub mod DeeperLevelsLemmas
pub mod BaseLevelLemmas
pub mod ScoresLemmas
