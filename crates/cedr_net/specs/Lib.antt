pub mod Edges
pub mod Flows
pub mod Keeping
pub mod Networks
pub mod Settling
