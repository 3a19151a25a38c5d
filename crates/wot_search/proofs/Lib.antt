pub mod Ahead
pub mod NextOfTwo
pub mod PathsAreOffers
pub mod OfRoots
pub mod TakenOffer
pub mod OneSearch
pub mod WidestFound
