-- The store as a machine: its states, its requests and answers, its runs and their laws.
pub mod MachineLemmas
pub mod RunsLemmas
pub mod LawsLemmas
pub mod ViewsLemmas
pub mod WalkLawsLemmas
pub mod Causes
pub mod Example
