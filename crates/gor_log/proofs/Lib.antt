pub mod BodyLaws
pub mod Loop
