-- What an engine has in memory of a store that it opens or has open, beside the files.
pub mod WrittenLemmas
pub mod LogsBelowLemmas
pub mod SwitchLogLemmas
pub mod BatchWrittenLemmas
pub mod LogTablesLemmas
pub mod ImmLemmas
pub mod ShownLemmas
pub mod RecoveringLemmas
pub mod OpeningEndLemmas
