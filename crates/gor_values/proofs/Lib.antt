pub mod Apart
pub mod Found
pub mod Marks
pub mod Pushes
pub mod Readings
pub mod WordLaws
