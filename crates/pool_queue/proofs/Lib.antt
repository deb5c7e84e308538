pub mod Counts
mod Views
mod Moves
mod Opening
mod Seating
mod Drained
