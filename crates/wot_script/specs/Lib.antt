pub mod Grammar
pub mod Laws
pub mod OneWord
pub mod Replies
pub mod Spelling
