pub mod Readings
pub mod Sizes
pub mod ReadBounds
pub mod OneLine
pub mod WordLines
pub mod ReadAgain
