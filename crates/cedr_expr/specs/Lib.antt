pub mod Columns
pub mod Tests
pub mod Types
pub mod Ties
pub mod Tags
