pub mod Outcomes
pub mod Answers
pub mod Seals
pub mod Unlisted
pub mod Exchanges
