-- How an engine opens a store, to be written or to be read alone.
pub mod ReaderValue
pub mod Unopened
pub mod ReadAlone
pub mod ReadAloneLaws
