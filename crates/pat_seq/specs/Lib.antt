pub mod Sequences
pub mod SequenceLaws
pub mod Keeping
pub mod Readings
