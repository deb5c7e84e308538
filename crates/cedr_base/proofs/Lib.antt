pub mod RowLemmas
pub mod Bags
pub mod Sorting
pub mod FieldBytes
pub mod FieldReading
pub mod StoredLemmas
pub mod FieldLemmas
pub mod CodeOrder
