pub mod Firsts
pub mod Putting
pub mod Running
pub mod Pairs
