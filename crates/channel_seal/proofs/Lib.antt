pub mod Sealed
pub mod Responses
