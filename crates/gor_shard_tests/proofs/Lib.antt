pub mod AnyRows
pub mod Starts
pub mod TwoPasses
