pub mod InitFacts
pub mod Laws
