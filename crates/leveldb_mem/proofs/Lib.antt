pub mod FragmentLemmas
pub mod LogLemmas
pub mod LogFileLemmas
pub mod CrashLemmas
pub mod LawsLemmas
mod LogRowLemmas
mod WriterLemmas
pub mod ReaderLemmas
mod TakingLemmas
mod BeginningLemmas
mod JoiningLemmas
pub mod WriteBatchLemmas
pub mod EntryLemmas
mod MemTableLemmas
mod TowersLemmas
mod PlacedLemmas
mod PathLemmas
mod InsertionLemmas
mod LaidLemmas
mod Halving
mod Rising
mod SkipMapLemmas
