pub mod FourSeries
pub mod Gets
pub mod Puts
pub mod Steps
pub mod Turns
