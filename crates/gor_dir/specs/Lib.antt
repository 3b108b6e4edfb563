pub mod Listings
pub mod Pools
pub mod Restores
pub mod Rows
pub mod Events
