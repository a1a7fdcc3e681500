pub mod Edits
pub mod Levels
pub mod Stores
pub mod Histories
pub mod Steps
