pub mod Pairs
pub mod Joins
pub mod JoinLaws
pub mod Readings
