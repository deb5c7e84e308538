pub mod Divided
pub mod Reading
