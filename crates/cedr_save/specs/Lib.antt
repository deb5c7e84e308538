pub mod Checkpoints
pub mod Refusals
pub mod Saving
pub mod Lines
pub mod Reading
pub mod Fronts
