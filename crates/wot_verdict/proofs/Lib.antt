pub mod Changed
pub mod Holding
pub mod Passing
