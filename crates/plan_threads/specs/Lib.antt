pub mod Seats
pub mod Rooms
