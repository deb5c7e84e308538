pub mod FanLemmas
pub mod OpenLemmas
pub mod Pending
pub mod RoundLemmas
