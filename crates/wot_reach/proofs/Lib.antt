pub mod Within
pub mod EdgesThatLead
pub mod Enough
pub mod SlotNumbers
pub mod Checked
