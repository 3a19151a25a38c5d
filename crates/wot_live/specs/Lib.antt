pub mod Edge
pub mod Rows
pub mod SelfCertified
pub mod Found
