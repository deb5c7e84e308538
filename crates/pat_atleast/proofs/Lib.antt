pub mod ArrangeLemmas
pub mod CountLemmas
pub mod PlaceLemmas
pub mod RepairLemmas
pub mod AgreeLemmas
pub mod RowsMade
pub mod CrossingLemmas
pub mod KeptLemmas
