pub mod Loads
pub mod Rows
pub mod Kept
pub mod Runs
