pub mod Entry
pub mod Inserts
pub mod Stamps
