pub mod Watches
pub mod Telling
