pub mod Watching
pub mod Reports
pub mod SoFar
pub mod Rooms
