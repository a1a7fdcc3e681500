-- How a store is opened, to be written or to be read alone.
pub mod Opening
pub mod FoundFiles
pub mod OpensStore
pub mod OpeningState
pub mod Listing
pub mod OpeningSteps
pub mod EndsOpening
pub mod DamageSteps
pub mod OpensToRead
