pub mod Outgoing
pub mod Rounds
pub mod Outlets
