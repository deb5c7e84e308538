pub mod Admitted
pub mod Pinned
pub mod Places
pub mod Clamped
pub mod Chosen
