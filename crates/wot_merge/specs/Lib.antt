pub mod Staging
pub mod Gather
pub mod Room
