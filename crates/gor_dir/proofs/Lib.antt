pub mod EntryLaws
pub mod RowLaws
pub mod SlotLists
pub mod Steps
pub mod StartSteps
pub mod Sorting
pub mod EventSteps
