pub mod CutLemmas
pub mod LogLemmas
