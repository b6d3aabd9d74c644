pub mod Roots
pub mod Schedule
pub mod Blocks
pub mod Rounds
pub mod Sums
