pub mod Sources
pub mod Answers
pub mod Queries
pub mod Finds
pub mod Forgettings
pub mod Reports
