pub mod Finding
pub mod Fields
pub mod Reading
pub mod TreeFacts
pub mod Walking
pub mod Answers
