pub mod Parts
pub mod HeadFacts
pub mod DerFacts
pub mod WritingFacts
