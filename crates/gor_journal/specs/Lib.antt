pub mod Entries
pub mod Bodies
pub mod Records
pub mod Stands
pub mod Events
