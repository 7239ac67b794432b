pub mod Calls
pub mod Keeping
pub mod Turns
