-- What files hold of a history, now and after a crash.
pub mod NumbersLemmas
pub mod ViewsLemmas
pub mod MatchesLemmas
pub mod SafeLemmas
pub mod HistoriesLemmas
pub mod BatchMatchesLemmas
pub mod HonestCrashLemmas
pub mod HoldsLemmas
