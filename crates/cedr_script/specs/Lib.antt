pub mod Begun
pub mod Cutters
pub mod Cutting
pub mod Logs
