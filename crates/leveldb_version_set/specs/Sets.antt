-- The version set: its manifest, how it is recovered, and how it logs an edit.
pub mod CurrentFile
pub mod VersionSetValue
pub mod CurrentVersion
pub mod VersionSetLaws
pub mod LogEdit
pub mod NewManifest
pub mod NewStore
pub mod Recover
pub mod Replay
pub mod Usable
pub mod RecoverSteps
pub mod Tracks
pub mod DisjointLevels
pub mod FilesInOrder
