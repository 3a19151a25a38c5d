pub mod Subpacket
pub mod Length
pub mod Area
pub mod Seen
pub mod Slice
