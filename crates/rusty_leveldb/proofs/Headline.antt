-- That the machine is maps: its states show stores, and its runs are stories of the headline.
mod MapLemmas
pub mod ShownLemmas
pub mod WalkRowLemmas
pub mod RowLemmas
pub mod StoryLemmas
pub mod OwnLemmas
pub mod RepairedLemmas
pub mod LawLemmas
pub mod WalkLawLemmas
