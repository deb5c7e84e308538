pub mod Lifetimes
pub mod LifetimeLaws
pub mod Readings
