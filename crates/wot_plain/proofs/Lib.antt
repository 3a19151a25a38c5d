pub mod Absences
pub mod CutLines
pub mod Entries
pub mod Faults
pub mod DirectoryGives
mod Known
pub mod EdgesMadeByLine
pub mod Paced
pub mod Results
pub mod Sessions
pub mod StateReplies
pub mod StepsByKind
pub mod Viewed
pub mod Watched
