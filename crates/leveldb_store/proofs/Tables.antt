-- Tables that are built and written.
pub mod BuildTableLemmas
mod StopsLemmas
pub mod TriesLemmas
pub mod TableFileLemmas
pub mod GrowsLemmas
pub mod WriteTableLemmas
pub mod PartsLemmas
pub mod OutputsLemmas
pub mod CreatedLemmas
mod NewNumbersLemmas
pub mod NewTablesLemmas
pub mod NotBuiltLemmas
