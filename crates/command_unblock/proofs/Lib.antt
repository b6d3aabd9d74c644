pub mod CheckFacts
pub mod Laws
