pub mod Marks
pub mod Decoded
pub mod PointBlock
pub mod Faults
pub mod Laws
