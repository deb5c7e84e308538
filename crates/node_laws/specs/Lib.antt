pub mod Surplus
pub mod Places
pub mod Lists
pub mod Kept
pub mod Pass
pub mod Lawful
pub mod Approaching
