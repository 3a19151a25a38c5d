pub mod Stepped
pub mod Machine
