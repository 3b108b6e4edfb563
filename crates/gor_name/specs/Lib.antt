pub mod Refusals
pub mod NameTest
