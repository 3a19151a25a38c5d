pub mod Known
pub mod Facts
pub mod Body
pub mod Signature
pub mod Notes
pub mod Lent
pub mod VersionFour
