pub mod Sizes
pub mod State
pub mod Slots
pub mod Sound
pub mod Shape
