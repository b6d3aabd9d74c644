pub mod Grown
pub mod Trips
