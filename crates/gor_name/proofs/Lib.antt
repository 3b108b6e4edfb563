pub mod NameLaws
pub mod Folding
