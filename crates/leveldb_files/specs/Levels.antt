-- Files and tables by levels: ranges of keys, and the order of a look-up.
pub mod Summary
pub mod Levels
pub mod Overlap
