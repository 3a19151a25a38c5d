pub mod Records
pub mod Places
pub mod Net
pub mod Refreshing
pub mod Local
pub mod Roads
pub mod Certified
pub mod Standings
