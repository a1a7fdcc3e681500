pub mod Sets
pub mod Compactions
pub mod Engines
pub mod Repairs
