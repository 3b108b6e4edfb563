pub mod TakenParts
pub mod MadeLaws
pub mod FlushLaws
pub mod FlushSteps
