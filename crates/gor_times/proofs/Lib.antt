pub mod Apart
pub mod Codes
pub mod Fields
pub mod Found
pub mod Readings
pub mod TimeLaws
