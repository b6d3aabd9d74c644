pub mod Chains
pub mod Mac
pub mod Heads
pub mod Joining
pub mod Laws
