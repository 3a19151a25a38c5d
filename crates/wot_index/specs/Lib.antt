pub mod Index
pub mod Log
