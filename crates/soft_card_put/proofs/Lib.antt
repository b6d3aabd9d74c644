pub mod Again
pub mod Placed
pub mod Wrote
