pub mod Changes
pub mod Times
