pub mod Agreed
pub mod Sum
pub mod Slices
