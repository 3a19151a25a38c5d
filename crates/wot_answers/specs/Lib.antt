pub mod Names
pub mod Looked
pub mod Answers
pub mod Question
pub mod Asked
pub mod CaseLaws
pub mod EntryLaws
pub mod RightLaws
