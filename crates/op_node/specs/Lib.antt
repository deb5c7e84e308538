pub mod Outputs
pub mod OutputLaws
pub mod Meanings
pub mod MeaningLaws
pub mod Ready
pub mod ReadyLaws
pub mod Readings
