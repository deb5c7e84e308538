pub mod TakenLemmas
pub mod ReadsLemmas
pub mod WholeLemmas
mod EntryLemmas
pub mod ByLineLemmas
