pub mod Cipher
pub mod Schedule
pub mod InvCipher
pub mod Aes
