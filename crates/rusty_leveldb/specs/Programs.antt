-- The command language, runs of commands, lives of a store, and the program.
pub mod Views
pub mod Shell
pub mod RunCalls
pub mod Story
pub mod RunAlone
pub mod Lives
pub mod Language
pub mod Readings
pub mod Program
