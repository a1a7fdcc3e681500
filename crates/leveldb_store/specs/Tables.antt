-- Tables that are built and written.
pub mod BuildTable
pub mod TableFile
pub mod Outputs
pub mod TableParts
