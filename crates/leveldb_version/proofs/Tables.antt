-- A store's open tables, and what is found and stepped to in one.
pub mod TableCacheLemmas
pub mod TableCacheCallLemmas
pub mod ReadTableLemmas
pub mod TableStepLemmas
pub mod TableMoveLemmas
pub mod NewestLemmas
pub mod SearchTableLemmas
pub mod NewestTablesLemmas
pub mod TablesInTurnLemmas
pub mod TableRunLemmas
