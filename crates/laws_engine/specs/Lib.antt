pub mod Tapped
pub mod Faults
