pub mod Entries
pub mod Once
pub mod Passes
