-- The steps of an engine, and what each keeps of a store.
pub mod StoreSteps
pub mod StoreLaws
pub mod StoreStays
