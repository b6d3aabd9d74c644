pub mod Openings
pub mod Unsealed
