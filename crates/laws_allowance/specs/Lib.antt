pub mod Events
pub mod History
pub mod Latest
pub mod Tries
pub mod Guard
pub mod Told
pub mod NotCompared
pub mod Examples
