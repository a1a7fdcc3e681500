pub mod Edits
pub mod Versions
pub mod Tables
pub mod Walks
pub mod ExitLemmas
