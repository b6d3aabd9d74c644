pub mod CheckFacts
pub mod TapFacts
pub mod Responses
