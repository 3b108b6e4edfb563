pub mod Heads
pub mod Rounds
pub mod Laws
