pub mod WatchEdges
mod WatchesOnce
pub mod WatchesSettled
