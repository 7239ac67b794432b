pub mod Bytes
pub mod Holding
pub mod Turns
pub mod Loads
pub mod Walking
pub mod Ran
