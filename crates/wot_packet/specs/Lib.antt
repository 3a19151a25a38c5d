pub mod Answers
pub mod Header
pub mod Reading
pub mod Seen
pub mod Spelling
pub mod Why
pub mod Writing
