pub mod CommandFacts
pub mod AfterFacts
pub mod RunFacts
pub mod Blind
