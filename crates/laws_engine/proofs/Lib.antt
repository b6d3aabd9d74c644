pub mod Sound
pub mod Refusals
pub mod Agreement
pub mod Lengths
pub mod Rooms
pub mod Tapped
pub mod Faults
