-- Walks over the tables of files, and over those of a version.
pub mod VersionIterBackLemmas
pub mod VersionIterForwardLemmas
pub mod VersionIterLemmas
pub mod VersionIterSeekLemmas
pub mod VersionItersLemmas
mod WalkFilesLemmas
mod WalkOrderLemmas
pub mod WalkTablesLemmas
pub mod VersionLayersLemmas
mod TablesToWalkLemmas
pub mod WalksBesideLemmas
