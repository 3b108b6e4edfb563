pub mod Made
pub mod Flushes
pub mod Steps
