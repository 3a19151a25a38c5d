pub mod Items
pub mod ClaimTexts
pub mod ClaimBounds
pub mod Questions
