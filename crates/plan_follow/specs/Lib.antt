pub mod Cut
pub mod Followers
pub mod Following
pub mod Holding
pub mod Playing
pub mod Sending
pub mod Sifted
