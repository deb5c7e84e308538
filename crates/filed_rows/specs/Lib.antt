pub mod Filed
pub mod Ends
pub mod Spans
