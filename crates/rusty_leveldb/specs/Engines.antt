-- An engine beside the machine: what it has in memory, and what each call does.
pub mod AnyValue
pub mod EngineValue
pub mod Boxes
pub mod Frame
pub mod Serves
pub mod Engine
pub mod Rows
pub mod Tidy
pub mod Room
pub mod Calls
pub mod CallLaws
pub mod Witness
