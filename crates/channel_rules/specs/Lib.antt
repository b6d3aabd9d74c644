pub mod Message
pub mod Terminal
