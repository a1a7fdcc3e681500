-- An open store, and what each call keeps of it and of its files.
pub mod OpenStore
pub mod OpenTables
pub mod Written
pub mod WrittenFrom
pub mod KeptBytes
pub mod SetAside
pub mod SoundCall
pub mod LoggedEdits
pub mod KeptEntries
