pub mod BlockSteps
pub mod Firsts
pub mod Getting
pub mod Pushing
