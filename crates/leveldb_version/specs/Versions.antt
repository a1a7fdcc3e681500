-- Versions: their files in order, look-ups through them, and samples of reads.
pub mod Version
pub mod Change
pub mod Search
pub mod Sampling
pub mod DeeperLevels
pub mod Scores
