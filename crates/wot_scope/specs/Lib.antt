pub mod Deciding
pub mod Scope
