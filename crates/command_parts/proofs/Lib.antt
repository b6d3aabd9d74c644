pub mod CheckFacts
pub mod SupplyFacts
pub mod ReplyFacts
