pub mod Tallies
pub mod Feeding
pub mod Laws
