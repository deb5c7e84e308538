pub mod AgreeLemmas
pub mod RowsMade
