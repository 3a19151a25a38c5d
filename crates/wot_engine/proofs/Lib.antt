mod Contents
mod ByCases
mod Progress
mod Reached
mod LineReplies
mod Held
mod TakesAtMost
mod Does
mod Fresh
mod HasAsked
mod Forms
mod Statuses
mod Promises
mod Plays
mod Summary
pub mod Stops
