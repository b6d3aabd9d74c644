pub mod Fields
pub mod Lengths
pub mod Parse
pub mod Forms
pub mod Answers
pub mod Renewal
