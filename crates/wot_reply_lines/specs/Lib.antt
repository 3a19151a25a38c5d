pub mod ClaimLaws
pub mod Claims
pub mod Entry
pub mod Lines
pub mod Question
pub mod Words
