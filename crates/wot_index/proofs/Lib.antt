pub mod Choices
pub mod Indexed
pub mod Noted
pub mod Logged
pub mod Later
pub mod Since
