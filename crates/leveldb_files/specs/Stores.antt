-- Which files are a store, and what is read of them.
pub mod Contents
pub mod Paths
pub mod Batches
pub mod Store
pub mod StoreTables
pub mod Format
