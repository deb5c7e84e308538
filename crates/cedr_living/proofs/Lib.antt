pub mod PlaceLemmas
pub mod CountLemmas
pub mod ShowLemmas
pub mod CutLemmas
pub mod OuterLemmas
pub mod CoverLemmas
pub mod IndexLemmas
pub mod LivingLemmas
