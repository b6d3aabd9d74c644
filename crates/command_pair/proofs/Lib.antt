pub mod ReplyFacts
pub mod Laws
