pub mod Opened
pub mod Pairs
