pub mod Flat
pub mod Offsets
pub mod Places
