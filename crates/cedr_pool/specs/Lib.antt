pub mod Tasks
pub mod Seats
pub mod Rooms
pub mod Turns
