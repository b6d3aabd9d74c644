pub mod Sbox
pub mod Products
pub mod Doublings
