pub mod Plains
pub mod FirstValues
pub mod Puts
pub mod Lanes
