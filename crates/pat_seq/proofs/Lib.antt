pub mod RepairLemmas
pub mod KeptLemmas
pub mod AgreeLemmas
pub mod RowsMade
