pub mod FeedLemmas
pub mod RoundLemmas
pub mod RunLemmas
pub mod SourceLemmas
pub mod NotingLemmas
pub mod QueryLemmas
