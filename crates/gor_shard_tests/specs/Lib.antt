pub mod Devices
pub mod Passes
pub mod Rows
