pub mod Errors
pub mod Names
pub mod World
pub mod Shelf
pub mod Memory
pub mod Stored
