pub mod Places
pub mod Phrases
