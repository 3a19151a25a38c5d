mod Changes
mod Inside
mod PartsAnswer
mod OpenViewsMarks
mod ConsultsLeads
pub mod RevisionsOfViews
pub mod Lines
pub mod DumpSize
pub mod Replay
pub mod BasisStaysTrue
pub mod Onward
