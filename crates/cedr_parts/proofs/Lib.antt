pub mod DividedLemmas
pub mod ReadingLemmas
