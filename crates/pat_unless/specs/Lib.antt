pub mod Blocking
pub mod BlockingLaws
pub mod Steps
pub mod Standing
pub mod Readings
