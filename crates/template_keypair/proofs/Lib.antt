pub mod KeypairFacts
pub mod Walks
