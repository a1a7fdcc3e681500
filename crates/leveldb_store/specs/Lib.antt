pub mod Keeping
pub mod Writing
pub mod Reading
pub mod Tables
pub mod Compactions
pub mod Logs
pub mod Openings
