pub mod Fields
pub mod Trips
pub mod OtherHeads
pub mod Accepted
