pub mod DrainLemmas
pub mod DriveLemmas
