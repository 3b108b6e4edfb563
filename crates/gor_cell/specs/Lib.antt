pub mod Packed
pub mod Stands
pub mod Steps
pub mod Blocks
