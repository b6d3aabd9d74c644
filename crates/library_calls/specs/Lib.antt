pub mod Left
pub mod Tapped
