pub mod Agree
mod Constants
pub mod Lanes
pub mod Offsets
pub mod Rounds
pub mod Strings
