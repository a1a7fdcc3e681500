-- Version edits of the code: their fields, and one edit of all that there is.
pub mod VersionEditLemmas
pub mod FieldsLemmas
pub mod FullEditLemmas
