pub mod CommandsInLines
pub mod Unchanged
mod Removals
mod Reported
mod DumpLine
mod Worded
mod Due
