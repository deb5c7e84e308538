pub mod Rounds
pub mod Feeding
pub mod Sources
