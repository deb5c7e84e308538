pub mod BuiltInLemmas
pub mod FieldTexts
pub mod LineReadings
pub mod AcceptedLines
pub mod MadeLemmas
