pub mod PutFacts
pub mod TestFacts
