pub mod FiledLemmas
pub mod EndLemmas
pub mod RenewLemmas
pub mod NoteLemmas
pub mod PartnerLemmas
pub mod SpanLemmas
