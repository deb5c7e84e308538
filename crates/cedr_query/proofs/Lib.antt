pub mod Feeding
pub mod NodeLemmas
pub mod QueryLemmas
