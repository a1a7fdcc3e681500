-- What is found in a folder, and what a repair makes of it.
pub mod FoundLemmas
pub mod RepairingLemmas
pub mod RepairingKeepsLemmas
pub mod RepairingFoundLemmas
