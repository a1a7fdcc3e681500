-- The store as a machine: its states, its requests and answers, its runs and their laws.
pub mod State
pub mod Causes
pub mod Machine
pub mod Runs
pub mod Laws
pub mod Shown
