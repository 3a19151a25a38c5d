pub mod Nexting
pub mod Offers
pub mod Below
pub mod Asked
pub mod Widest
