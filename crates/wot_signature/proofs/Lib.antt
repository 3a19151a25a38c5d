pub mod Last
pub mod Walk
pub mod Slices
mod ReadBefore
