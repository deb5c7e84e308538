pub mod EndingLemmas
