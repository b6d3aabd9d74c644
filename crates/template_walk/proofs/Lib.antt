pub mod WalkFacts
pub mod Reading
pub mod Joining
