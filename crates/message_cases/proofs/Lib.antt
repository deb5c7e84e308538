pub mod NodeLemmas
pub mod NetLemmas
pub mod QueryLemmas
