pub mod PortLemmas
pub mod PortLists
pub mod Goes
pub mod Echo
pub mod First
pub mod Takes
pub mod LevelLemmas
pub mod NodeLemmas
