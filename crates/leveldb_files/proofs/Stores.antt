-- Which files are a store, and what is read of them.
pub mod BatchesLemmas
pub mod ManagedLemmas
pub mod LogsLemmas
pub mod KeptLemmas
pub mod OneStoreLemmas
pub mod LastLogLemmas
pub mod ManifestLemmas
pub mod StoreTablesLemmas
