pub mod BitString
pub mod Spelled
