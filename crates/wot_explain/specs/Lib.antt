pub mod Words
pub mod Target
pub mod Reasons
pub mod Explaining
pub mod Usable
pub mod Listing
pub mod Piece
pub mod Around
