mod BesideLemmas
pub mod MemoryLemmas
pub mod OpenLemmas
