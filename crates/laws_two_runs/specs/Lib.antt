pub mod Comparisons
pub mod Compared
pub mod Runs
pub mod Shown
pub mod Verification
