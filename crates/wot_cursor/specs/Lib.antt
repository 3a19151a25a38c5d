pub mod Age
pub mod Cursors
pub mod Telling
