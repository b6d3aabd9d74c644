pub mod TapFacts
