pub mod Bags
pub mod Repairs
pub mod Agreeing
pub mod Times
