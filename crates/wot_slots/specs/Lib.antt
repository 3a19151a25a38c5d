pub mod Above
pub mod Found
pub mod Live
pub mod Near
pub mod Row
