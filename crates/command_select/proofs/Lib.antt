pub mod SelectFacts
pub mod ReplyFacts
pub mod Laws
