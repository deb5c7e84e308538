pub mod Generator
pub mod Summary
pub mod BuiltIn
pub mod Numbers
