-- What is found in a folder, and what a repair makes of it.
pub mod Found
pub mod Repairing
