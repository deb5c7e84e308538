pub mod Entries
pub mod Reads
pub mod Steps
pub mod Whole
