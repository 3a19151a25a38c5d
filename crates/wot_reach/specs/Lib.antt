pub mod Slots
pub mod Onward
pub mod Reach
pub mod Making
