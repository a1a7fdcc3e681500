-- The steps of an engine, and what each keeps of a store.
mod EditAppendLemmas
mod BatchAppendLemmas
pub mod NewLogLemmas
pub mod UnreadLemmas
pub mod ObsoleteLemmas
pub mod ComposeLemmas
pub mod SwapEditLemmas
pub mod SwitchEditLemmas
mod RenameLemmas
pub mod EditNowLemmas
pub mod StaysLemmas
mod SyncLemmas
pub mod CurrentKeptLemmas
pub mod CrashLemmas
pub mod FirstCurrentLemmas
mod BatchCrashLemmas
pub mod KeepsLemmas
pub mod WritesLemmas
pub mod WritableLemmas
pub mod SameStoreLemmas
pub mod BytesLemmas
pub mod RenameOpensLemmas
