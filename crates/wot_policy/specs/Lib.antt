pub mod Admits
pub mod Standard
pub mod Kept
