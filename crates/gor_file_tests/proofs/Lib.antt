pub mod Opened
pub mod Sequence
