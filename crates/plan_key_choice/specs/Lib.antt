pub mod Choices
pub mod Partial
pub mod Ranges
