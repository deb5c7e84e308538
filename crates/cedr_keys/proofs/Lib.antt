pub mod FrontLemmas
pub mod EndLemmas
