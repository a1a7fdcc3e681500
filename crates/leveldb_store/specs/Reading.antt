-- Look-ups, and walks over the store's view.
pub mod Read
pub mod StoreWalk
pub mod StoreWalkLaws
pub mod View
