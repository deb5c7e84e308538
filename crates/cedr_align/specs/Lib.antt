pub mod Moving
pub mod Remembered
pub mod Released
pub mod Aligner
