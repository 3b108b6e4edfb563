mod ByteLaws
mod ShareLaws
mod EventSteps
