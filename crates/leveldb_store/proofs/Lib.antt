mod ExitLemmas
pub mod Keeping
pub mod Writing
mod Reading
pub mod Tables
pub mod Compactions
pub mod Logs
pub mod Openings
