pub mod Verified
pub mod Lawful
