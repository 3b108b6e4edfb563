pub mod Zeros
pub mod Rows
pub mod Files
pub mod Writers
