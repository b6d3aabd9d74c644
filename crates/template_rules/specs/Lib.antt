pub mod Template
pub mod Der
pub mod Writing
