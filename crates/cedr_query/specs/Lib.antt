pub mod Queries
pub mod Asked
