pub mod Tests
pub mod Zeros
pub mod Rules
pub mod SoundFacts
pub mod ShapeFacts
pub mod TapFacts
