pub mod Trees
pub mod Faults
pub mod Answers
