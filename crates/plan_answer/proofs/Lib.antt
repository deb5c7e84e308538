pub mod SourceLemmas
pub mod FindLemmas
pub mod AcceptedLemmas
pub mod ChangesLemmas
pub mod TextLemmas
pub mod ListedLemmas
