pub mod KeptLemmas
pub mod TypeLemmas
pub mod TieLemmas
pub mod TagLemmas
pub mod CompareLemmas
pub mod MoreLemmas
