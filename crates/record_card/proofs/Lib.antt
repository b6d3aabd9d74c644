pub mod AtFacts
