pub mod MessageTexts
