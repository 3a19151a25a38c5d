pub mod Kept
pub mod Number
pub mod Verdicts
