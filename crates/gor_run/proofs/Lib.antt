pub mod KnownParts
pub mod OutputParts
pub mod InputParts
pub mod PhaseSteps
pub mod Taken
pub mod BadLines
pub mod ServeEnds
pub mod RunSteps
pub mod RunEnds
mod DumpParts
pub mod OnlyTexts
