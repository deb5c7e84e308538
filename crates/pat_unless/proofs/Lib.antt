pub mod ScanLemmas
pub mod RepairLemmas
pub mod AgreeLemmas
pub mod RowsMade
