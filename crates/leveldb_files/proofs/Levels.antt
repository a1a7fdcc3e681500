-- Files and tables by levels: ranges of keys, and the order of a look-up.
pub mod SummaryLemmas
pub mod OverlapLemmas
pub mod OutputLevelLemmas
pub mod LevelsLemmas
pub mod TablesLemmas
