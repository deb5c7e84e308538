pub mod Opened
pub mod Remembered
