pub mod UsedFacts
pub mod EachFacts
