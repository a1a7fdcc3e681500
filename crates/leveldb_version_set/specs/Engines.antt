-- What an engine has in memory of a store that it opens or has open, beside the files.
pub mod Writing
pub mod Opening
pub mod WritingLaws
pub mod OpeningLaws
