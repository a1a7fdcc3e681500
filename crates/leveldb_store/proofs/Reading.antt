-- Look-ups, and walks over the store's view.
pub mod ReadLemmas
mod LookUpLemmas
pub mod StoreWalkLemmas
pub mod ViewLemmas
pub mod ViewHistoryLemmas
pub mod ViewReadsLemmas
pub mod ViewMergeLemmas
pub mod ViewListsLemmas
pub mod ViewTablesLemmas
mod ViewChildrenLemmas
pub mod ViewStoreLemmas
