-- Logs that are read and replayed, and what is left out of one.
pub mod FoundLogs
pub mod LogReplay
pub mod NextFound
pub mod Damage
pub mod ReplayLog
pub mod ReadLogs
