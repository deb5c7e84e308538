pub mod Counts
pub mod Asked
pub mod Memory
