pub mod Outcomes
pub mod Commands
