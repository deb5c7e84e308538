pub mod WireLemmas
pub mod CloseLemmas
pub mod RunLemmas
