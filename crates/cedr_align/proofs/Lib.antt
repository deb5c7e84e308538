pub mod TurnLemmas
pub mod MoveLemmas
pub mod RememberedLemmas
pub mod ThroughLemmas
pub mod SettledLemmas
pub mod CauseLemmas
pub mod Aligned
