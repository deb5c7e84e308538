pub mod ReadyMeanings
