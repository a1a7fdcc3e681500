pub mod BlockLemmas
pub mod BlockCheckLemmas
pub mod BlockWalkLemmas
pub mod BlockBuilderLemmas
pub mod FooterLemmas
pub mod CacheLemmas
mod CacheKeyLemmas
pub mod BlockCacheLemmas
pub mod TableLemmas
pub mod TableBlockLemmas
pub mod TableBuilderLemmas
pub mod TableBuilderStageLemmas
pub mod TableBuilderAddLemmas
pub mod TableBuilderFinishLemmas
pub mod TableReaderLemmas
pub mod TableReaderWalkLemmas
pub mod TableReaderMovesLemmas
mod TableReadsLemmas
pub mod TableMoreLemmas
mod RefusalLemmas
pub mod ReadableTableLemmas
pub mod ReadableFileLemmas
pub mod ReadableJudgeLemmas
