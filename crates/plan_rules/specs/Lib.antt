pub mod Plan
pub mod Known
