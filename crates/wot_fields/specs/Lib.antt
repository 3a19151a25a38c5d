pub mod Appends
pub mod Decimal
pub mod Fields
pub mod Pieces
pub mod StateLine
pub mod Texts
pub mod Turned
pub mod Uid
