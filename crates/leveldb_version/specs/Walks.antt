-- Walks over the tables of files, and over those of a version.
pub mod VersionIter
pub mod VersionIterLaws
pub mod VersionIters
pub mod WalksBeside
