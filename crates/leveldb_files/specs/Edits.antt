-- Version edits as bytes, and what edits leave.
pub mod Edit
pub mod Current
pub mod VersionSet
