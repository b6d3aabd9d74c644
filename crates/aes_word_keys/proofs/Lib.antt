pub mod Growth
pub mod Changes
