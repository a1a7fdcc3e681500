-- Version edits of the code: their fields, and one edit of all that there is.
pub mod VersionEdit
pub mod Fields
pub mod FullEdit
