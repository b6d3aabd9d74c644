pub mod Commands
pub mod Planning
pub mod Written
pub mod Proposed
