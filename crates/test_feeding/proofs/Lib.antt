pub mod CameLemmas
pub mod MarkLemmas
