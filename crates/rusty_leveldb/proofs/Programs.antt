-- The command language, runs of commands, lives of a store, and the program.
mod Turns
pub mod TurnLemmas
pub mod Playing
pub mod Living
pub mod CallsMade
mod LifeStories
pub mod StoreNames
pub mod Storied
pub mod RunStories
pub mod Lives
pub mod Words
pub mod Lines
pub mod Inputs
pub mod Answering
pub mod RunAloneLemmas
