mod Copies
mod Edits
pub mod Lookups
mod Replay
pub mod Restored
mod Steps
mod StillImages
pub mod Runs
