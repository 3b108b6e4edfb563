pub mod KeyLaws
pub mod BodyLaws
pub mod Loop
