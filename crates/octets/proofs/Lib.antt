pub mod Xor
pub mod Table
pub mod Lists
pub mod Made
pub mod Filling
