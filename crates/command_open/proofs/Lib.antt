pub mod SlotFacts
pub mod ReplyFacts
