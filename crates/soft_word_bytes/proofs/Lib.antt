pub mod PieceFacts
pub mod WordFacts
