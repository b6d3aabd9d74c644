pub mod SlotFacts
pub mod Laws
