pub mod Columns
pub mod Steps
pub mod Inverse
pub mod Expansion
pub mod Permutation
pub mod Elements
