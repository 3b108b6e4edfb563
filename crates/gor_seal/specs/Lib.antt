pub mod Sealing
pub mod Turning
