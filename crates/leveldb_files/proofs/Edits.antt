-- Version edits as bytes, and what edits leave.
pub mod EditLemmas
pub mod CurrentLemmas
pub mod VersionSetLemmas
pub mod EditTablesLemmas
