pub mod Opens
pub mod Exchange
